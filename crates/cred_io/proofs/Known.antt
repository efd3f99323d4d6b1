-- One read or write after another, and what one read of bytes in memory takes.
use Rattle.std.proofs.Common.{◌≡◌, ℕ, ◌+◌, ◌-◌, ◌<◌, ◌≤◌, min, List, [], ◌++◌, length, take, drop, Option, sym, ap, ◌∙◌, arith, take-append-drop, length-append}
use Rattle.std.proofs.Common.{length-drop}
use Rattle.std.proofs.Math.Seq.{take-add}
use Rattle.std.proofs.lemmas.List.{take_rest, take-append-le, take-take, length-take, nil_from_length}
use Rattle.std.proofs.KnownBytes.{Consumes-nil, Consumes-trans, Appends-trans, Appends-kept}
use Rattle.std.specs.Io.KnownBytes.{Consumes, Appends, Keeps}

pub consumes_nothing : (known : Option (List ℕ)) → Consumes known known []
consumes_nothing known = Consumes-nil known

pub consumes_more : (a b c : Option (List ℕ)) (xs ys : List ℕ) → Consumes a b xs → Consumes b c ys → Consumes a c (xs ++ ys)
consumes_more a b c xs ys first second = Consumes-trans a b c xs ys first second

pub appends_more : (a b c : Option (List ℕ)) (xs ys : List ℕ) → Appends a b xs → Appends b c ys → Appends a c (xs ++ ys)
appends_more a b c xs ys first second = Appends-trans a b c xs ys first second

pub appends_kept : (a b c : Option (List ℕ)) (xs : List ℕ) → Appends a b xs → Keeps b c → Appends a c xs
appends_kept a b c xs written kept = Appends-kept a b c xs written kept

-- after a write of the first n bytes of what is left of a piece
pub appends_step : (a b c : Option (List ℕ)) (piece : List ℕ) (at n : ℕ) → Appends a b (take at piece)
    → Appends b c (take n (take (length piece - at) (drop at piece))) → Appends a c (take (at + n) piece)
appends_step a b c piece at n written more = rw take-add (appends_more a b c (take at piece) (take n (drop at piece)) written (rw take_rest at more))

-- Bytes in memory are read into a buffer, as many as fit, and no more than a piece.
pub read_piece : (left old new after : List ℕ) (piece n : ℕ) → 0 < piece → n ≡ min (length old) (min piece (length left)) → new ≡ take n left ++ drop n old
    → after ≡ drop n left
    → (left ≡ take n new ++ after) × (n ≡ 0 → 0 < length new → after ≡ [])
read_piece left old new after piece n some fits copied rest =
    let known : n ≤ length (take n left) = omega (arith, fits, length-take n left) in
    let prefix_is : take n new ≡ take n left =
    ap (take n) copied ∙ take-append-le n (take n left) (drop n old) known ∙ take-take n n left (omega arith) in
    let whole : left ≡ take n new ++ after =
    sym (take-append-drop n left) ∙ ap (λ z. z ++ drop n left) (sym prefix_is) ∙ ap (λ z. take n new ++ z) (sym rest) in
    let size : length new ≡ length (take n left) + length (drop n old) = ap length copied ∙ length-append (take n left) (drop n old) in
    let ends : n ≡ 0 → 0 < length new → after ≡ [] =
    λ none room. nil_from_length after
    (omega (arith, some, fits, size, none, room, length-take n left, length-drop n old, ap length rest, length-drop n left)) in
    (whole, ends)

-- The same of an end that moves as much as it is asked to.
pub read_prefix : (left old new after : List ℕ) (n : ℕ) → n ≡ min (length old) (length left) → new ≡ take n left ++ drop n old → after ≡ drop n left
    → (left ≡ take n new ++ after) × (n ≡ 0 → 0 < length new → after ≡ [])
read_prefix left old new after n fits copied rest =
    read_piece left old new after (length left + 1) n (omega arith) (omega (arith, fits)) copied rest

-- what is copied of the first bytes that are left is copied of all of them
pub copied_piece : (left old : List ℕ) (piece most n : ℕ) → most ≡ min (length left) piece → n ≡ min (length old) (length (take most left))
    → (n ≡ min (length old) (min piece (length left))) × (take n (take most left) ≡ take n left)
copied_piece left old piece most n most_is fits =
    (omega (arith, most_is, fits, length-take most left), take-take n most left (omega (arith, most_is, fits, length-take most left)))
