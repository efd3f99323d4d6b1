-- A slot is taken, or none is free; and the table that counts is reserved room.
use Rattle.std.proofs.Common.{◌≡◌, ℕ, ◌<◌, ◌==◌, Bool, false, List, [], ◌∷◌, ◌++◌, count_by, slice_index_or, Option, None, Some, sym, ap, ◌∙◌, subst, arith}
use Rattle.std.specs.Option.{option_map_or}
use Rattle.cred_record.specs.Credential.{Credential}
use Rattle.cred_event.specs.declared.answer.Answer.{Answer}
use Rattle.cred_event.specs.declared.answer.Answer.TheVariants.{TableFull}
use Rattle.cred_model.specs.State.{State, current_of, Numbered}
use Rattle.cred_model.specs.Slots as model
use Rattle.cred_model.specs.Slots.{in_use, kept}
use Rattle.cred_model.specs.Moves.{in_slot, table_full}
use Rattle.cred_model.proofs.Numbers.{current_is}
use Rattle.cred_slots.specs.Table.{Table, IsSameBag, IsOnlyUser, is_kept_in, is_sealed_in}
use Rattle.cred_slots.proofs.Counting.{count-cons, count-append}
use Rattle.cred_slots.specs.Table as table
use Rattle.cred_slots.proofs.Tables.{held_is_referred}
use Rattle.cred_tables.specs.Kept.{IsInUse, StateLists, state_of, creds_in, IsKept, Seals}
use Rattle.cred_tables.proofs.Bags.{bag-at, bag-more, bag-less}
use Rattle.cred_tables.proofs.Filled.{filled_same, no_more_counted, no_more_dropped}
use Rattle.cred_tables.proofs.Free.{full_swept, room-same, free-same}
use Rattle.cred_tables.proofs.Keeps.{is_among}
use Rattle.cred_tables.proofs.InUse.{current-stands}
use Rattle.cred_tables.proofs.Stored.{is_table}

-- ---- a table with more room to spare

pub seals_spare : {t r after : Table} {m number slot : ℕ} → r ≡ record t { spare = m } → Seals r after number slot → Seals t after number slot
seals_spare {after = after} {number = number} {slot = slot} is seals =
    let s = subst (λ (x : Table). Seals x after number slot) is seals in
    record {
      takes = s.takes;
      in_table = s.in_table;
      alone = s.alone;
      counted = s.counted;
      held = s.held;
      sealed = s.sealed;
      deferred = s.deferred;
      kept = s.kept;
    }

pub none_spare : (t : Table) {r : Table} {m : ℕ} → r ≡ record t { spare = m } → table.free_in r ≡ None → table.free_in t ≡ None
none_spare t is none = subst (λ (x : Table). table.free_in x ≡ None) is none

pub referred_to : (t r : Table) (m n : ℕ) → r ≡ record t { spare = m } → 0 < count_by (λ k. k == n) t.held → 0 < table.references_to r n
referred_to t r m n is some = subst (λ (x : Table). 0 < table.references_to x n) (sym is) (held_is_referred t n some)

-- ---- a slot is taken, or none is free

pub takes_slot : (s r : State) (does : State → ℕ → Answer × State) (slot : ℕ) → model.free s ≡ Some slot → model.swept_if_full s ≡ r
    → in_slot s table_full does ≡ does r slot
takes_slot s r does slot takes makes =
    ap (λ o. option_map_or (does (model.swept_if_full s)) o (table_full (model.swept_if_full s))) takes ∙ ap (λ (x : State). does x slot) makes

finds_full : (s r : State) (does : State → ℕ → Answer × State) → model.free s ≡ None → model.swept_if_full s ≡ r
    → in_slot s table_full does ≡ (TableFull, r)
finds_full s r does full makes =
    ap (λ o. option_map_or (does (model.swept_if_full s)) o (table_full (model.swept_if_full s))) full ∙ ap (λ (x : State). (TableFull, x)) makes

module _ {parts : StateLists} {store : List (Option Credential)} {t : Table} (is : IsKept parts store t) where
  -- the state with the room that the table makes
  abbrev pub roomy : State
  roomy = state_of parts store (table.swept_table_if_full t)

  pub in_free : (does : State → ℕ → Answer × State) (slot : ℕ) → table.free_in t ≡ Some slot
      → in_slot (state_of parts store t) table_full does ≡ does roomy slot
  in_free does slot takes =
      let s = state_of parts store t in
      takes_slot s roomy does slot (sym (free-same s t (is_table is)) ∙ takes) (room-same s t (is_table is))

  -- the same, whatever is done where no slot is free
  pub in_free_or : (full : State → Answer × State) (does : State → ℕ → Answer × State) (slot : ℕ) → table.free_in t ≡ Some slot
      → in_slot (state_of parts store t) full does ≡ does roomy slot
  in_free_or full does slot takes =
      let s = state_of parts store t in
      ap (λ o. option_map_or (does (model.swept_if_full s)) o (full (model.swept_if_full s))) (sym (free-same s t (is_table is)) ∙ takes)
      ∙ ap (λ (x : State). does x slot) (room-same s t (is_table is))

  -- where no slot is free, a sweep was made
  pub in_none_or : (full : State → Answer × State) (does : State → ℕ → Answer × State) → table.free_in t ≡ None
      → in_slot (state_of parts store t) full does ≡ full (state_of parts store (table.swept_table t))
  in_none_or full does none =
      let s = state_of parts store t in
      ap (λ o. option_map_or (does (model.swept_if_full s)) o (full (model.swept_if_full s))) (sym (free-same s t (is_table is)) ∙ none)
      ∙ ap full (room-same s t (is_table is) ∙ ap (λ (x : Table). state_of parts store x) (full_swept t none))

  pub in_none : (does : State → ℕ → Answer × State) (after : Table) → table.free_in t ≡ None
      → roomy ≡ state_of parts store after
      → in_slot (state_of parts store t) table_full does ≡ (TableFull, state_of parts store after)
  in_none does after none makes =
      let s = state_of parts store t in
      finds_full s (state_of parts store after) does (sym (free-same s t (is_table is)) ∙ none)
      (room-same s t (is_table is) ∙ makes)

  -- a task's current credential is held
  pub current-held : (task : ℕ) (old : Numbered) → current_of (state_of parts store t) task ≡ Some old
      → 0 < count_by (λ m. m == old.number) t.held
  current-held task old has =
      let s = state_of parts store t in
      let u = current_is s task old has in
      subst (λ (n : ℕ). 0 < count_by (λ m. m == n) t.held) (sym u.number)
      (bag-at u.owner.current is.counted.counts (current-stands s task u.owner u.is))

-- what is in use is referred to
pub used_is_referred : {parts : StateLists} {store : List (Option Credential)} {t : Table} (is : IsKept parts store t) (number : ℕ)
    → IsInUse (state_of parts store t) number → 0 < table.references_to t number
used_is_referred {t = t} is number used = held_is_referred t number (bag-at number is.counted.counts used)

-- the room that was made is that of the table without the spare
pub roomy_spare : (parts : StateLists) (store : List (Option Credential)) (t r after : Table) (m : ℕ)
    → r ≡ record t { spare = m } → after ≡ table.swept_table_if_full r
    → state_of parts store (table.swept_table_if_full t) ≡ state_of parts store after
roomy_spare parts store t r after m is made =
    sym (ap (λ (x : Table). state_of parts store x) (subst (λ (x : Table). after ≡ table.swept_table_if_full x) is made))

-- the same slots are kept
pub keeps_same : (t after : Table) (slots : List ℕ) → ((slot : ℕ) → is_kept_in t slot ≡ is_among slots slot) → after.kept ≡ t.kept
    → (slot : ℕ) → is_kept_in after slot ≡ is_among slots slot
keeps_same t after slots keeps same slot = ap (λ ks. slice_index_or ks slot false) same ∙ keeps slot

-- the state over a later table
pub over_later : (parts : StateLists) (store : List (Option Credential)) (t later : Table) {ds : List ℕ} → later.sealed ≡ t.sealed → later.deferred ≡ ds
    → record (state_of parts store t) { deferred = ds } ≡ state_of parts store later
over_later parts store t later sealed deferred =
    ap (λ (ds : List ℕ). record (state_of parts store t) { deferred = ds }) (sym deferred)
    ∙ ap (λ (ss : List ℕ). record (state_of parts store later) { creds = creds_in store ss }) (sym sealed)

-- ---- a reference that is given up

-- A reference to the number is given up, and counts until the next sweep.
pub record Drops (before after : Table) (number : ℕ) : Type 0 where
  pub held : IsSameBag before.held (number ∷ after.held)
  pub sealed : after.sealed ≡ before.sealed
  pub deferred : after.deferred ≡ before.deferred ++ number ∷ []
  pub kept : after.kept ≡ before.kept

pub drops : {before after : Table} {number : ℕ} → IsSameBag before.held (number ∷ after.held)
    → after ≡ record before { held = after.held; deferred = before.deferred ++ number ∷ [] } → Drops before after number
drops held made = record {
  held = held;
  sealed = ap (λ (x : Table). x.sealed) made;
  deferred = ap (λ (x : Table). x.deferred) made;
  kept = ap (λ (x : Table). x.kept) made;
}

-- Lists that refer to one number less are kept once it is given up.
pub kept_less : {parts left : StateLists} {store : List (Option Credential)} {t later : Table} {n : ℕ} → IsKept parts store t → Drops t later n
    → IsSameBag (in_use (state_of parts store t)) (n ∷ in_use (state_of left store later))
    → ((slot : ℕ) → is_kept_in later slot ≡ is_among (kept (state_of left store later)) slot) → IsKept left store later
kept_less {t = t} {later = later} {n = n} is less bag keeps = record {
  counted = record { counts = bag-less is.counted.counts less.held bag; keeps = keeps };
  filled = filled_same less.sealed (no_more_dropped t later (n ∷ []) less.held less.deferred) is.filled;
}

-- Lists that refer to one number more are kept once a reference to it is added, where it was
-- referred to before.
pub kept_more : {parts more : StateLists} {store : List (Option Credential)} {t r later : Table} {n m k : ℕ} → IsKept parts store t
    → r ≡ record t { spare = m } → IsSameBag later.held (n ∷ r.held) → later ≡ record r { held = later.held; spare = k }
    → IsSameBag (in_use (state_of more store later)) (n ∷ in_use (state_of parts store t))
    → kept (state_of more store later) ≡ kept (state_of parts store t) → 0 < count_by (λ m. m == n) t.held → IsKept more store later
kept_more {t = t} {later = later} {n = n} is spared adds made bag slots has =
    let held : IsSameBag later.held (n ∷ t.held) = subst (λ (x : Table). IsSameBag later.held (n ∷ x.held)) spared adds in
    let sealed : later.sealed ≡ t.sealed = ap (λ (x : Table). x.sealed) made ∙ ap (λ (x : Table). x.sealed) spared in
    let deferred : later.deferred ≡ t.deferred = ap (λ (x : Table). x.deferred) made ∙ ap (λ (x : Table). x.deferred) spared in
    let flags : later.kept ≡ t.kept = ap (λ (x : Table). x.kept) made ∙ ap (λ (x : Table). x.kept) spared in
    record {
      counted = record {
        counts = bag-more is.counted.counts held bag;
        keeps = λ slot. keeps_same t later _ is.counted.keeps flags slot ∙ ap (λ (ks : List ℕ). is_among ks slot) (sym slots);
      };
      filled = filled_same sealed (no_more_counted t later n held deferred (held_is_referred t n has)) is.filled;
    }

-- What was given up is still referred to, and nothing else is.
pub alone_later : {before after : Table} {number slot n : ℕ} → Drops before after n → IsOnlyUser before number slot → IsOnlyUser after number slot
alone_later {before = before} {after = after} {slot = slot} {n = n} late alone = record {
  only = λ other stands some.
      let test : ℕ → Bool = λ m. m == other in
      let held = late.held.counts test ∙ count-cons test n after.held in
      let deferred = ap (λ (ds : List ℕ). count_by test ds) late.deferred ∙ count-append test before.deferred (n ∷ []) in
      let one = count-cons test n [] in
      let all = count-append test after.held after.deferred in
      let each = count-append test before.held before.deferred in
      alone.only other (ap (λ (ss : List ℕ). is_sealed_in ss slot other) (sym late.sealed) ∙ stands) (omega (arith, some, held, deferred, one, all, each));
}
