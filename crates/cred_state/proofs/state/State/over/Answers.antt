use Rattle.std.proofs.Common.{◌≡◌, ℕ, zero, suc, false, List, [], ◌∷◌, Option, Some, slice_get, map, slice_index_or, refl}
use Rattle.std.specs.List.{range_with_len}
use Rattle.cred_ids.specs.Limits.{SLOTS}
use Rattle.cred_record.specs.Credential.{Credential}
use Rattle.cred_record.specs.File.{File}
use Rattle.cred_slots.specs.Table.{empty_table}
use Rattle.std.specs.Option.{option_map}
use Rattle.std.proofs.lemmas.List.Elements.{All-nil}
use Rattle.cred_hold.specs.Tokens.{IsAlone}
use Rattle.cred_model.specs.Script.{Script, inodes_of}
use Rattle.cred_model.specs.State.{opening, Prepared}
use Rattle.cred_tables.specs.Kept.{as_lists, IsKept, state_of}
use Rattle.cred_state.proofs.state.State.over.Goals as goal

none_set : (xs : List ℕ) (slot : ℕ) → slice_index_or (map (λ _. false) xs) slot false ≡ false
none_set [] slot = refl
none_set (x ∷ xs) zero = refl
none_set (x ∷ xs) (suc slot) = none_set xs slot

nothing-kept : (store : List (Option Credential)) (inodes : List File)
    → IsKept (as_lists [] [] [] [] [] [] inodes) store empty_table
unfolding empty_table
nothing-kept store inodes = record {
  counted = record { counts = record { counts = λ test. refl }; keeps = none_set (range_with_len 0 SLOTS) };
  filled = record { each = λ n slot at some. absurd (cc) };
}

nothing-state_of : (store : List (Option Credential)) (script : Script)
    → state_of (as_lists [] [] [] [] [] [] (inodes_of script)) store empty_table ≡ opening script
unfolding empty_table
nothing-state_of store script = refl

pub invariant_of-result : goal.invariant_of-result
invariant_of-result c = rw (c.new-3.ensures, c.new-4.ensures, c.new-5.ensures, c.new-6.ensures, c.new-7.ensures, c.in_ok-slots.ensures, c.in_ok-flags.ensures) (
  nothing-kept _ _,
  All-nil
      (λ (p : Prepared). IsAlone c.args.master.loans p.slot → slice_get c.args.master.slots p.slot ≡ Some (option_map (λ last. last.cred) p.changed)),
)

pub returns-clause-state : goal.returns-clause-state
unfolding empty_table
returns-clause-state c =
    rw (c.new-3.ensures, c.new-4.ensures, c.new-5.ensures, c.new-6.ensures, c.new-7.ensures, c.in_ok-slots.ensures, c.in_ok-flags.ensures, c.in_ok-inodes.ensures)
    (nothing-state_of c.args.master.slots c.args.script.now)
