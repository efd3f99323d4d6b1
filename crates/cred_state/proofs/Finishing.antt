-- A prepared label is done: its credential is sealed in the slot that was kept for it, and its base
-- given up. So a commit ends, and an override by what was prepared for access(2).
use Rattle.std.proofs.Common.{◌≡◌, ◌≢◌, ℕ, ◌<◌, List, [], ◌∷◌, ◌++◌, remove, length, slice_get, slice_set, slice_index_or, false, Option, Some, ap, ◌∙◌, subst}
use Rattle.std.proofs.Common.{arith}
use Rattle.std.specs.List.{AllPairs}
use Rattle.cred_record.specs.Credential.{Credential}
use Rattle.cred_model.specs.State.{State, Task, Prepared}
use Rattle.cred_model.specs.Slots.{in_use, kept}
use Rattle.cred_model.specs.Like.{IsLike}
use Rattle.cred_slots.specs.Table.{Table, IsSameBag, IsOnlyUser}
use Rattle.cred_slots.proofs.Counting.{count-cons}
use Rattle.cred_tables.specs.Kept.{StateLists, creds_in, state_of, IsKept, SealsKept}
use Rattle.cred_tables.proofs.Filled.{NoMore, filled_put, no_more_finished}
use Rattle.cred_tables.proofs.InUse.{in_use-unlabel}
use Rattle.cred_state.proofs.Labelling.{keeps-less}
use Rattle.cred_tables.proofs.Stored.{parts_in, stored_like}

-- The tasks refer to the new number already, and so does the table `mid` when its references are
-- counted; what stands there and is kept is as before, and nothing else is referred to than before.
module _ {parts : StateLists} {store : List (Option Credential)} {t : Table} (is : IsKept parts store t)
    (place : ℕ) (p : Prepared) (there : slice_get parts.prepared place ≡ Some p) (own : AllPairs (λ a b. a ≢ b) (kept (state_of parts store t)))
    (tasks : List Task) {mid : Table} (after : Table) (number : ℕ) (sealed : mid.sealed ≡ t.sealed) (keeps : mid.kept ≡ t.kept) (fewer : NoMore t mid)
    (refer : IsSameBag (number ∷ mid.held) (in_use (record (state_of parts store t) { tasks = tasks })))
    (within : p.slot < length store) (seals : SealsKept mid after number p.base p.slot) (c : Credential) where
  abbrev pub done_parts : StateLists
  done_parts = record parts { tasks = tasks; prepared = remove parts.prepared place }

  abbrev pub put : List (Option Credential)
  put = slice_set store p.slot (Some c)

  sealed_is : after.sealed ≡ t.sealed ++ p.slot ∷ []
  sealed_is = seals.sealed ∙ ap (λ (ss : List ℕ). ss ++ p.slot ∷ []) sealed

  pub finish_kept : IsKept done_parts put after
  finish_kept = record {
    counted = record {
      counts = record {
        counts = λ test.
            let now = seals.held.counts test in
            let gone = count-cons test p.base after.held in
            let all = refer.counts test in
            let less = (in_use-unlabel (record (state_of parts store t) { tasks = tasks }) place p there).counts test
            ∙ count-cons test p.base (in_use (state_of done_parts put after)) in
            omega (arith, now, gone, all, less);
      };
      keeps = λ slot.
          ap (λ ks. slice_index_or ks slot false) (seals.kept ∙ ap (λ ks. slice_set ks p.slot false) keeps)
          ∙ keeps-less is place p there own slot;
    };
    filled = filled_put store p.slot c within sealed_is
        (λ n ne some. fewer n (no_more_finished seals n (λ e. ne (e ∙ ap length sealed)) some)) is.filled;
  }

  -- so it is like a state in which the credential is sealed
  pub finish_like : (made : State) → done_parts ≡ parts_in made → mid.deferred ++ p.base ∷ [] ≡ made.deferred
      → creds_in store t.sealed ++ record { cred = c; slot = p.slot } ∷ [] ≡ made.creds
      → IsLike (state_of done_parts put after) made
  finish_like made same deferred creds =
      stored_like store after t.sealed c p.slot made finish_kept sealed_is within
      (subst (λ (n : ℕ). IsOnlyUser after n p.slot) (seals.counted ∙ ap length sealed) seals.alone) same
      (seals.deferred ∙ deferred) creds
