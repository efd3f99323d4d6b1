-- Where a prefix of the text of a journal ends.
use Rattle.std.proofs.Common.{◌≡◌, ℕ, ◌+◌, ◌-◌, ◌<◌, ◌⊎◌, inl, inr, List, [], ◌∷◌, ◌++◌, length, take, Option, refl, sym, ap, ◌∙◌, subst, append_assoc, arith}
use Rattle.std.specs.List.{flat_map}
use Rattle.std.proofs.Math.Seq.{take-append-add}
use Rattle.std.proofs.lemmas.Bool.{cases_lt}
use Rattle.std.proofs.lemmas.List.{append-nil, take_all, take-append-le}
use Rattle.cred_io.specs.Ends.{AppendsPrefix}
use Rattle.cred_event.specs.declared.entry.Entry.{Entry}
use Rattle.cred_model.specs.Script.{Script}
use Rattle.cred_model.specs.Journal.{SoFar}
use Rattle.cred_report.specs.Text.{entry_text, text}
use Rattle.cred_laws.proofs.Prefixes.{so_far_prefix, comes_behind}
use Rattle.cred_output.specs.Cuts.{IsCut, AppendsCut}

-- The texts of the elements before one, and a part of its own.
record StopsIn {A : Type 0} (f : A → List ℕ) (xs : List A) (bytes : List ℕ) : Type 0 where
  before : List A
  at : A
  behind : List A
  split : xs ≡ before ++ at ∷ behind
  count : ℕ
  below : count < length (f at)
  bytes_are : bytes ≡ flat_map f before ++ take count (f at)

-- the bytes are the texts of all elements, or stop in that of one
abbrev Stops : {A : Type 0} → (A → List ℕ) → List A → List ℕ → Type 0
Stops f xs bytes = (bytes ≡ flat_map f xs) ⊎ StopsIn f xs bytes

one_more : {A : Type 0} (f : A → List ℕ) (x : A) (xs : List A) (bytes : List ℕ) → Stops f xs bytes → Stops f (x ∷ xs) (f x ++ bytes)
one_more f x xs bytes (inl all) = inl (ap (λ bs. f x ++ bs) all)
one_more f x xs bytes (inr in_one) = inr (record {
  before = x ∷ in_one.before;
  at = in_one.at;
  behind = in_one.behind;
  split = ap (λ ys. x ∷ ys) in_one.split;
  count = in_one.count;
  below = in_one.below;
  bytes_are = ap (λ bs. f x ++ bs) in_one.bytes_are ∙ sym (append_assoc (f x) (flat_map f in_one.before) (take in_one.count (f in_one.at)));
})

stops : {A : Type 0} (f : A → List ℕ) (xs : List A) (n : ℕ) → Stops f xs (take n (flat_map f xs))
stops f [] n = inl (take_all n [] (omega arith))
stops f (x ∷ xs) n =
    elim (cases_lt n (length (f x))) [
      | inl lt ↦ inr (record {
        before = [];
        at = x;
        behind = xs;
        split = refl;
        count = n;
        below = lt;
        bytes_are = take-append-le n (f x) (flat_map f xs) (omega arith);
      })
      | inr le ↦
          let past : length (f x) + (n - length (f x)) ≡ n = omega arith in
          let whole : take n (f x ++ flat_map f xs) ≡ f x ++ take (n - length (f x)) (flat_map f xs)
          = ap (λ m. take m (f x ++ flat_map f xs)) (sym past) ∙ take-append-add (f x) (flat_map f xs) (n - length (f x)) in
          subst (Stops f (x ∷ xs)) (sym whole) (one_more f x xs (take (n - length (f x)) (flat_map f xs)) (stops f xs (n - length (f x))))
    ]

cut_by : (script : Script) (journal : List Entry) (bytes : List ℕ) → SoFar script journal → Stops (entry_text script) journal bytes → IsCut script bytes
cut_by script journal bytes so_far (inl all) = record {
  journal = journal;
  so_far = so_far;
  rest = [];
  bytes_are = all ∙ sym (append-nil (text script journal));
  rest_is = inl refl;
}
cut_by script journal bytes so_far (inr in_one) =
    let split = subst (SoFar script) in_one.split so_far in
    let comes = comes_behind script in_one.before in_one.at in_one.behind split in
    record {
      journal = in_one.before;
      so_far = so_far_prefix script in_one.before (in_one.at ∷ in_one.behind) split;
      rest = take in_one.count (entry_text script in_one.at);
      bytes_are = in_one.bytes_are;
      rest_is = inr (record {
        lane = comes.0;
        entry = in_one.at;
        next_is = comes.2;
        count = in_one.count;
        below = in_one.below;
        bytes_are = refl;
      });
    }

-- Each prefix of the text of a journal that is one so far stops after an entry, or in the next one of a lane.
pub prefix_is_cut : (script : Script) (journal : List Entry) (count : ℕ) → SoFar script journal → IsCut script (take count (text script journal))
prefix_is_cut script journal count so_far =
    cut_by script journal (take count (text script journal)) so_far (stops (entry_text script) journal count)

-- a prefix that was written
pub cut_written : (before after : Option (List ℕ)) (script : Script) (journal : List Entry) → SoFar script journal
    → AppendsPrefix before after (text script journal) → AppendsCut before after script
cut_written before after script journal so_far prefix =
    (take prefix.count (text script journal), prefix_is_cut script journal prefix.count so_far, prefix.written)
