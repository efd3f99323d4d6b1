-- The moves that lead from one use of the slots in order to another: fewer references and fewer kept slots,
-- one slot more that is kept, one credential more that is sealed.
use Rattle.std.proofs.Common.{◌≡◌, ◌≢◌, ◌⊎◌, inl, inr, ℕ, ◌<◌, List, [], ◌∷◌, ◌++◌, length, slice_get, Some, sym, ap, ◌∙◌, arith}
use Rattle.std.specs.List.{All, AllPairs, Contains}
use Rattle.std.proofs.lemmas.List.{length_push}
use Rattle.std.proofs.lemmas.List.Elements.{All-contains, All-push, All-weaker}
use Rattle.std.proofs.lemmas.List.Quantifiers.{all_pairs_push}
use Rattle.cred_ids.specs.Limits.{SLOTS}
use Rattle.cred_model.proofs.Lists.{slice_get-left, slice_get-last}
use Rattle.cred_sound.specs.SlotUse.{SlotUse, referred, StandsIn, IsClear, SlotsApart, IsOrderly}

abbrev pub Apart : ℕ → ℕ → Type 0
Apart a b = a ≢ b

-- ---- fewer references, and fewer slots that are kept

clear_fewer : (slots : List ℕ) (slot : ℕ) (xs ys : List ℕ) → IsClear slots slot xs → All (Contains xs) ys → IsClear slots slot ys
clear_fewer slots slot xs ys clear among =
    All-weaker (Contains xs) (λ n. slice_get slots n ≢ Some slot)
    (λ n has. All-contains (λ n. slice_get slots n ≢ Some slot) xs n clear has) ys among

pub fewer : (l : SlotUse) (in_use deferred kept : List ℕ) → All (Contains (referred l)) (in_use ++ deferred)
    → All (Contains l.kept) kept → AllPairs Apart kept → IsOrderly l
    → IsOrderly (record { slots = l.slots; in_use = in_use; deferred = deferred; kept = kept })
fewer l in_use deferred kept among within own order =
    let xs = referred l in
    let ys = in_use ++ deferred in
    record {
      sealed = All-weaker (Contains xs) (λ n. n < length l.slots) (λ n has. All-contains (λ n. n < length l.slots) xs n order.sealed has) ys among;
      slotted = order.slotted;
      apart = λ slot m n has_m has_n. order.apart slot m n (All-contains (Contains xs) ys m among has_m) (All-contains (Contains xs) ys n among has_n);
      kept = All-weaker (Contains l.kept) (λ slot. slot < SLOTS) (λ slot has. All-contains (λ slot. slot < SLOTS) l.kept slot order.kept has) kept within;
      own = own;
      clear = All-weaker (Contains l.kept) (λ slot. IsClear l.slots slot ys)
          (λ slot has. clear_fewer l.slots slot xs ys (All-contains (λ slot. IsClear l.slots slot xs) l.kept slot order.clear has) among) kept within;
    }

-- ---- one slot more that is kept, and that was free

pub keeps : (l : SlotUse) (slot : ℕ) → slot < SLOTS → IsClear l.slots slot (referred l) → All (λ k. k ≢ slot) l.kept
    → IsOrderly l → IsOrderly (record l { kept = l.kept ++ slot ∷ [] })
keeps l slot below clear unkept order = record {
  sealed = order.sealed;
  slotted = order.slotted;
  apart = order.apart;
  kept = All-push (λ slot. slot < SLOTS) l.kept slot order.kept below;
  own = all_pairs_push Apart l.kept slot order.own unkept;
  clear = All-push (λ slot. IsClear l.slots slot (referred l)) l.kept slot order.clear clear;
}

-- ---- one credential more, in a slot that is clear

-- a reference that was there, or the number of the new credential
abbrev pub OldOrNew : List ℕ → List ℕ → ℕ → Type 0
OldOrNew slots numbers n = Contains numbers n ⊎ (n ≡ length slots)

sealed_more : (slots xs : List ℕ) (slot n : ℕ) → All (λ n. n < length slots) xs → OldOrNew slots xs n
    → n < length (slots ++ slot ∷ [])
sealed_more slots xs slot n sealed (inl has) =
    let old = All-contains (λ n. n < length slots) xs n sealed has in omega (arith, length_push slots slot)
sealed_more slots xs slot n sealed (inr is) = omega (arith, length_push slots slot)

-- an old number stands where it stood, and the new one in its slot
old_stands : (slots xs : List ℕ) (new n : ℕ) → All (λ n. n < length slots) xs → Contains xs n
    → slice_get (slots ++ new ∷ []) n ≡ slice_get slots n
old_stands slots xs new n sealed has =
    slice_get-left slots (new ∷ []) n (All-contains (λ n. n < length slots) xs n sealed has)

new_stands : (slots : List ℕ) (new slot n : ℕ) → n ≡ length slots → StandsIn (slots ++ new ∷ []) slot n → new ≡ slot
new_stands slots new slot n last at =
    let both : Some new ≡ Some slot = sym (ap (slice_get (slots ++ new ∷ [])) last ∙ slice_get-last slots new) ∙ at in cc

apart_cases : (slots xs : List ℕ) (new : ℕ) → SlotsApart slots xs → All (λ n. n < length slots) xs → IsClear slots new xs
    → (slot m n : ℕ) → OldOrNew slots xs m → OldOrNew slots xs n
    → StandsIn (slots ++ new ∷ []) slot m → StandsIn (slots ++ new ∷ []) slot n → m ≡ n
apart_cases slots xs new apart sealed clear slot m n (inl a) (inl b) at_m at_n =
    apart slot m n a b (sym (old_stands slots xs new m sealed a) ∙ at_m) (sym (old_stands slots xs new n sealed b) ∙ at_n)
apart_cases slots xs new apart sealed clear slot m n (inl a) (inr b) at_m at_n =
    absurd (All-contains (λ n. slice_get slots n ≢ Some new) xs m clear a
    (sym (old_stands slots xs new m sealed a) ∙ at_m ∙ ap Some (sym (new_stands slots new slot n b at_n))))
apart_cases slots xs new apart sealed clear slot m n (inr a) (inl b) at_m at_n =
    absurd (All-contains (λ n. slice_get slots n ≢ Some new) xs n clear b
    (sym (old_stands slots xs new n sealed b) ∙ at_n ∙ ap Some (sym (new_stands slots new slot m a at_m))))
apart_cases slots xs new apart sealed clear slot m n (inr a) (inr b) at_m at_n = a ∙ sym b

clear_more : (slots xs ys : List ℕ) (new slot : ℕ) → All (λ n. n < length slots) xs → slot ≢ new → IsClear slots slot xs
    → All (OldOrNew slots xs) ys → IsClear (slots ++ new ∷ []) slot ys
clear_more slots xs ys new slot sealed differ clear among =
    All-weaker (OldOrNew slots xs) (λ n. slice_get (slots ++ new ∷ []) n ≢ Some slot)
    (λ n has at. elim has [
      | inl old ↦ All-contains (λ n. slice_get slots n ≢ Some slot) xs n clear old (sym (old_stands slots xs new n sealed old) ∙ at)
      | inr last ↦ differ (sym (new_stands slots new slot n last at))
    ])
    ys among

pub seals : (l : SlotUse) (slot : ℕ) (in_use deferred : List ℕ) → slot < SLOTS → IsClear l.slots slot (referred l)
    → All (λ k. k ≢ slot) l.kept → All (OldOrNew l.slots (referred l)) (in_use ++ deferred) → IsOrderly l
    → IsOrderly (record { slots = l.slots ++ slot ∷ []; in_use = in_use; deferred = deferred; kept = l.kept })
seals l slot in_use deferred below clear unkept among order =
    let xs = referred l in
    let ys = in_use ++ deferred in
    record {
      sealed = All-weaker (OldOrNew l.slots xs) (λ n. n < length (l.slots ++ slot ∷ []))
          (λ n has. sealed_more l.slots xs slot n order.sealed has) ys among;
      slotted = All-push (λ slot. slot < SLOTS) l.slots slot order.slotted below;
      apart = λ at m n has_m has_n. apart_cases l.slots xs slot order.apart order.sealed clear at m n
          (All-contains (OldOrNew l.slots xs) ys m among has_m) (All-contains (OldOrNew l.slots xs) ys n among has_n);
      kept = order.kept;
      own = order.own;
      clear = λ k d lt. clear_more l.slots xs ys slot _ order.sealed (unkept k d lt) (order.clear k d lt) among;
    }
