-- A number's last digit after those that were kept of it.
use Rattle.std.proofs.Common.{◌≡◌, ℕ, ◌+◌, ◌-◌, ◌/◌, ◌%◌, ◌^◌, ◌<◌, ◌≤◌, List, [], ◌∷◌, ◌++◌, length, take, drop, set, sym, ap, ◌∙◌, refl, append_assoc}
use Rattle.std.proofs.Common.{decimal, arith}
use Rattle.std.proofs.Math.Seq.{drop_at, length-take-le}
use Rattle.std.proofs.lemmas.List.{drop-drop, drop-append-le, drop-set}
use Rattle.std.proofs.lemmas.Fmt.{decimal_digit, decimal_step}
use borrow.Rule.Slice.PartMut.{put_mid}

-- the end of what was put in the place of a part, and what stands after it
pub past_put : (at k first : ℕ) (xs ys : List ℕ) → at + k ≤ length xs → length ys ≡ k → first ≤ k
    → drop (at + first) (put_mid at k xs ys) ≡ drop first ys ++ drop (at + k) xs
past_put at k first xs ys within long le =
    sym (drop-drop first at _)
    ∙ ap (drop first) (drop_at (take at xs) _ at (length-take-le at xs (omega arith)))
    ∙ drop-append-le first ys _ (omega arith)
    ∙ ap (λ l. drop first ys ++ l) (drop-drop k at xs)

-- a number of one digit, at its place
pub one_digit : (n end : ℕ) (buf : List ℕ) → n < 10 → 0 < end → end ≤ length buf
    → drop (end - 1) (set buf (end - 1) (48 + n % 10)) ≡ decimal n ++ drop end buf
one_digit n end buf small some within =
    let e : end - 1 + 1 ≡ end = omega arith in
    let same : n % 10 ≡ n = omega arith in
    rw (drop-set buf (end - 1) (48 + n % 10) (omega arith), e, same, decimal_digit n small)

-- a number of two digits
pub of_two : (n : ℕ) → 10 ≤ n → n < 100 → decimal n ≡ (48 + n / 10) ∷ (48 + n % 10) ∷ []
of_two n many small = rw (decimal_step n many (omega arith), decimal_digit (n / 10) (omega arith)) refl

-- the digits of a number before its last one
pub more_digits : (n tens end r : ℕ) (buf out : List ℕ) → 10 ≤ n → n < 2 ^ 64 → tens ≡ n / 10 → 0 < end → end ≤ length buf
    → drop r out ≡ decimal tens ++ drop (end - 1) (set buf (end - 1) (48 + n % 10)) → drop r out ≡ decimal n ++ drop end buf
more_digits n tens end r buf out many fits is some within written =
    let e : end - 1 + 1 ≡ end = omega arith in
    let last = drop-set buf (end - 1) (48 + n % 10) (omega arith) in
    let both : decimal tens ++ ((48 + n % 10) ∷ drop end buf) ≡ decimal n ++ drop end buf
    = rw (decimal_step n many fits, append_assoc, is) refl in
    rw (last, e) at written ∙ both
