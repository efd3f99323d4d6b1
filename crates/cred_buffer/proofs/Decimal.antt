-- A number's digits, from those of the number before it, or from those before its last.
use Rattle.std.proofs.Common.{◌≡◌, ℕ, ◌+◌, ◌-◌, ◌/◌, ◌%◌, ◌^◌, ◌<◌, ◌≤◌, List, [], ◌∷◌, ◌++◌, length, take, drop, set, sym, ap, ◌∙◌, refl, append_assoc, inl, inr}
use Rattle.std.proofs.Common.{decimal, arith, length-append}
use Rattle.std.proofs.lemmas.List.{take_at, length-take-le, take-append-drop}
use Rattle.std.proofs.lemmas.Grind.{take-set_at}
use Rattle.std.proofs.lemmas.Bool.{cases_lt}
use Rattle.std.proofs.lemmas.Fmt.{decimal_digit, decimal_step}

-- a number of two digits
pub of_two : (n : ℕ) → 10 ≤ n → n < 100 → decimal n ≡ (48 + n / 10) ∷ (48 + n % 10) ∷ []
of_two n many small = rw (decimal_step n many (omega arith), decimal_digit (n / 10) (omega arith)) refl

-- a number of three digits
pub of_three : (n : ℕ) → 100 ≤ n → n < 1000 → decimal n ≡ (48 + n / 100) ∷ (48 + n / 10 % 10) ∷ (48 + n % 10) ∷ []
of_three n many small =
    let tens : n / 10 / 10 ≡ n / 100 = omega arith in
    rw (← tens, decimal_step n (omega arith) (omega arith), of_two (n / 10) (omega arith) (omega arith)) refl

-- what stands before the last of some digits
pub before_last : (digits front : List ℕ) (len x : ℕ) → len ≤ length digits → take len digits ≡ front ++ x ∷ [] → take (len - 1) digits ≡ front
before_last digits front len x within is =
    let size : len ≡ length front + 1 = sym (length-take-le len digits within) ∙ ap length is ∙ length-append front (x ∷ []) in
    let e : len - 1 ≡ length front = omega arith in
    let whole : digits ≡ front ++ (x ∷ drop len digits) =
    sym (take-append-drop len digits) ∙ ap (λ (l : List ℕ). l ++ drop len digits) is ∙ append_assoc front (x ∷ []) (drop len digits) in
    rw e (ap (take (length front)) whole ∙ take_at front (x ∷ drop len digits) (length front) refl)

-- another last digit
pub last_changed : (digits front : List ℕ) (len x y : ℕ) → 0 < len → len ≤ length digits → take len digits ≡ front ++ x ∷ []
    → take len (set digits (len - 1) y) ≡ front ++ y ∷ []
last_changed digits front len x y some within is =
    take-set_at digits (len - 1) len y (omega arith) (omega arith) ∙ ap (λ (l : List ℕ). l ++ y ∷ []) (before_last digits front len x within is)

-- the digits of the number before one that doesn't end in 0, with the last one changed
pub one_more : (digits : List ℕ) (len n : ℕ) → 0 < n % 10 → n < 2 ^ 64 → 0 < len → len ≤ length digits → take len digits ≡ decimal (n - 1)
    → take len (set digits (len - 1) (48 + n % 10)) ≡ decimal n
one_more digits len n more fits some within is = elim (cases_lt n 10) [
  | inl one ↦
      let same : n % 10 ≡ n = omega arith in
      rw (same, decimal_digit n one)
      (last_changed digits [] len (48 + (n - 1)) (48 + n) some within (is ∙ decimal_digit (n - 1) (omega arith)))
  | inr many ↦
      let front : (n - 1) / 10 ≡ n / 10 = omega arith in
      rw (decimal_step n many fits)
      (last_changed digits (decimal (n / 10)) len (48 + (n - 1) % 10) (48 + n % 10) some within
      (is ∙ decimal_step (n - 1) (omega arith) (omega arith) ∙ ap (λ f. decimal f ++ (48 + (n - 1) % 10) ∷ []) front))
]

-- the last digit after those before it
pub last_after : (n tens at end : ℕ) (buf out : List ℕ) → 10 ≤ n → n < 2 ^ 64 → tens ≡ n / 10 → end < length out
    → take end out ≡ take at buf ++ decimal tens → take (end + 1) (set out end (48 + n % 10)) ≡ take at buf ++ decimal n
last_after n tens at end buf out many fits is within written =
    take-set_at out end (end + 1) (48 + n % 10) refl within
    ∙ ap (λ (l : List ℕ). l ++ (48 + n % 10) ∷ []) written
    ∙ append_assoc (take at buf) (decimal tens) ((48 + n % 10) ∷ [])
    ∙ ap (λ (l : List ℕ). take at buf ++ l) (ap (λ t. decimal t ++ (48 + n % 10) ∷ []) is ∙ sym (decimal_step n many fits))

-- a number of one digit
pub one_digit : (n at : ℕ) (buf : List ℕ) → n < 10 → at < length buf → take (at + 1) (set buf at (48 + n % 10)) ≡ take at buf ++ decimal n
one_digit n at buf small within =
    let same : n % 10 ≡ n = omega arith in
    rw (same, decimal_digit n small) (take-set_at buf at (at + 1) (48 + n) refl within)
