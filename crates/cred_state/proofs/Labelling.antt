-- A label begins to prepare, changes what it prepares, and gives it up.
use Rattle.std.proofs.Common.{◌≡◌, ◌≢◌, ℕ, ◌<◌, ◌≤◌, Bool, true, false, ◌==◌, ◌||◌, nat_lt, List, [], ◌∷◌, ◌++◌, find, map, position, remove, suc, take, drop}
use Rattle.std.proofs.Common.{count_by, slice_get, slice_set, slice_index_or, length, Option, None, Some, Ok, Err, is_some, refl, sym, ap, ◌∙◌, subst, arith}
use Rattle.std.specs.List.{AllPairs}
use Rattle.std.specs.Option.{option_map}
use Rattle.std.proofs.lemmas.Bool.Decides.{nat_tests}
use Rattle.std.proofs.lemmas.List.{take-map, drop-map, map-append}
use Rattle.std.proofs.lemmas.Option.{slice_get-map}
use Rattle.cred_record.specs.Credential.{Credential}
use Rattle.cred_event.specs.declared.answer.Answer.{Answer}
use Rattle.cred_event.specs.declared.answer.Answer.TheVariants.{Busy, Done, Exists, Kept, NoHold, NoTask, TableFull, TooMany}
use Rattle.cred_event.specs.declared.answer.Named.TheVariants as named
use Rattle.cred_event.specs.declared.answer.Counted.TheVariants as counted
use Rattle.cred_model.specs.State.{State, Task, Hold, Prepared, Changed, task_of, begun_by, hold_of, prepared_of}
use Rattle.cred_model.specs.Broadcasts.{not_busy}
use Rattle.cred_model.specs.Slots.{in_use, kept}
use Rattle.cred_model.specs.Moves as moves
use Rattle.cred_model.specs.Moves.{in_slot, table_full, with_change}
use Rattle.cred_model.specs.Like.{IsLike, IsOutcomeLike}
use Rattle.cred_model.specs.LabelEvents.{by_abort, by_prepare}
use Rattle.cred_model.specs.Step.{outcome}
use Rattle.cred_slots.specs.Table.{Table, IsSameBag, is_kept_in, references_to}
use Rattle.cred_state.specs.Refusals.{MayPrepare}
use Rattle.cred_slots.specs.Table as table
use Rattle.cred_slots.proofs.Tables.{held_is_referred}
use Rattle.cred_tables.specs.Kept.{StateLists, state_of, IsCounted, IsKept}
use Rattle.cred_tables.proofs.Bags.{bag-more, bag-less, bag-has, bag-at}
use Rattle.cred_tables.proofs.Cleared.{filled_spare, free_clear}
use Rattle.cred_tables.proofs.Filled.{filled_same, no_more_counted, no_more_dropped, no_more_roomy}
use Rattle.cred_tables.proofs.Keeps.{is_among, keeps-push, keeps-remove, among-at}
use Rattle.cred_tables.proofs.Sealing.{in_free, in_none, over_later}
use Rattle.cred_tables.proofs.Stored.{does_made, spare_like}
use Rattle.cred_tables.proofs.InUse.{in_use-label, in_use-unlabel, in_use-altered, kept-altered}

remove-map : {X Y : Type 0} (f : X → Y) (xs : List X) (i : ℕ) → map f (remove xs i) ≡ remove (map f xs) i
remove-map f xs i =
    map-append f (take i xs) (drop (suc i) xs)
    ∙ ap (λ ys. ys ++ map f (drop (suc i) xs)) (sym (take-map f i xs))
    ∙ ap (λ ys. take i (map f xs) ++ ys) (sym (drop-map f (suc i) xs))

-- ---- a slot is claimed

-- The slot was free, and is kept; a sweep was made where one was needed, and then a reference to
-- the base was added.
pub record Claims (before after : Table) (base slot : ℕ) : Type 0 where
  pub takes : table.free_in before ≡ Some slot
  pub held : IsSameBag after.held (base ∷ before.held)
  pub sealed : after.sealed ≡ before.sealed
  pub deferred : after.deferred ≡ (table.swept_table_if_full before).deferred
  pub kept : after.kept ≡ slice_set before.kept slot true
  pub here : is_kept_in after slot ≡ true

-- what a claim gives where there was more room to spare, and then a reference is added
pub claims : (t r claimed after : Table) (m n base slot : ℕ) → r ≡ record t { spare = m } → Some slot ≡ table.free_in r
    → claimed ≡ record (table.swept_table_if_full r) { kept = slice_set r.kept slot true } → is_kept_in claimed slot ≡ true
    → IsSameBag after.held (base ∷ claimed.held) → after ≡ record claimed { held = after.held; spare = n }
    → Claims t after base slot
claims t r claimed after m n base slot spared free gives kept held added =
    let takes : table.free_in t ≡ Some slot = sym (subst (λ (x : Table). Some slot ≡ table.free_in x) spared free) in
    let own : claimed ≡ record (table.swept_table_if_full t) { kept = slice_set t.kept slot true; spare = m }
    = subst (λ (x : Table). claimed ≡ record (table.swept_table_if_full x) { kept = slice_set x.kept slot true }) spared gives in
    record {
      takes = takes;
      held = subst (λ (x : Table). IsSameBag after.held (base ∷ x.held)) own held;
      sealed = ap (λ (x : Table). x.sealed) added ∙ ap (λ (x : Table). x.sealed) own;
      deferred = ap (λ (x : Table). x.deferred) added ∙ ap (λ (x : Table). x.deferred) own;
      kept = ap (λ (x : Table). x.kept) added ∙ ap (λ (x : Table). x.kept) own;
      here = ap (λ (x : Table). is_kept_in x slot) added ∙ kept;
    }

-- ---- what the tests of an event lead to

pub abort_tests : (s : State) (label place : ℕ) (p : Prepared) → position (λ q. q.label == label) s.prepared ≡ Some place → slice_get s.prepared place ≡ Some p
    → outcome s (by_abort s label) ≡ (Done, moves.given_up s place p)
abort_tests s label place p at there = rw (at, there) refl

prepare_does : (label task base : ℕ) → State → ℕ → Answer × State
prepare_does label task base s slot =
    (Kept slot, moves.preparing s (record { label = label; task = task; base = base; slot = slot; changed = None }))

few_prepared : (n : ℕ) → n < 64 → nat_lt n 64 ≡ true
few_prepared n few = grind (arith, nat_tests)

module _ (s : State) (label task hold : ℕ) where
  pub prepare_no_task : task_of s task ≡ None → outcome s (by_prepare s label task hold) ≡ (NoTask task, s)
  prepare_no_task none = rw none refl

  module _ (owner : Task) (lives : task_of s task ≡ Some owner) where
    pub prepare_busy : (number : ℕ) → not_busy (begun_by s task) ≡ Err (Busy number) → outcome s (by_prepare s label task hold) ≡ (Busy number, s)
    prepare_busy number busy = rw (lives, busy) refl

    module _ (idle : not_busy (begun_by s task) ≡ Ok tt) where
      pub prepare_no_hold : hold_of s hold ≡ None → outcome s (by_prepare s label task hold) ≡ (NoHold hold, s)
      prepare_no_hold none = rw (lives, idle, none) refl

      module _ (base : Hold) (has : hold_of s hold ≡ Some base) where
        pub prepare_exists : (is_some (hold_of s label) || is_some (prepared_of s label)) ≡ true
            → outcome s (by_prepare s label task hold) ≡ (Exists named.Label label, s)
        prepare_exists there = by (hold_of s label) refl there
          where
            by : (held : Option Hold) → hold_of s label ≡ held → (is_some held || is_some (prepared_of s label)) ≡ true
                → outcome s (by_prepare s label task hold) ≡ (Exists named.Label label, s)
            by None at there = rw (lives, idle, has, at, there) refl
            by (Some h) at there = rw (lives, idle, has, at) refl

        pub prepare_many : hold_of s label ≡ None → prepared_of s label ≡ None → nat_lt (length s.prepared) 64 ≡ false
            → outcome s (by_prepare s label task hold) ≡ (TooMany counted.Prepared, s)
        prepare_many new unprepared many = rw (lives, idle, has, new, unprepared, many) refl

pub many_prepared : (n m : ℕ) → m ≡ n → 64 ≤ m → nat_lt n 64 ≡ false
many_prepared n m is many = grind (arith, nat_tests)

pub no_number : (found : Option Hold) → None ≡ option_map (λ h. h.number) found → found ≡ None
no_number None is = refl
no_number (Some h) is = cc

prepare_tests : (s : State) (label task hold number : ℕ) (may : MayPrepare s label task hold number)
    → outcome s (by_prepare s label task hold) ≡ in_slot s table_full (prepare_does label task may.base.number)
unfolding prepare_does
prepare_tests s label task hold number may =
    rw (may.lives, may.idle, may.has, may.new, may.unprepared, few_prepared (length s.prepared) may.few) refl

module _ {parts : StateLists} {store : List (Option Credential)} {t : Table} (is : IsKept parts store t) where
  abbrev s : State
  s = state_of parts store t

  pub prepare_full : (after : Table) (label task hold number : ℕ) → MayPrepare s label task hold number → table.free_in t ≡ None
      → state_of parts store (table.swept_table_if_full t) ≡ state_of parts store after
      → outcome s (by_prepare s label task hold) ≡ (TableFull, state_of parts store after)
  prepare_full after label task hold number may none makes =
      prepare_tests s label task hold number may ∙ in_none is (prepare_does label task may.base.number) after none makes

  module _ (after : Table) (p : Prepared) (claim : Claims t after p.base p.slot) where
    abbrev begun : StateLists
    begun = record parts { prepared = parts.prepared ++ p ∷ [] }

    -- whatever is in the words of its slot
    prepare_words : 0 < count_by (λ m. m == p.base) t.held → IsKept begun store after
    prepare_words has =
        let slots : kept (record s { prepared = parts.prepared ++ p ∷ [] }) ≡ kept s ++ p.slot ∷ [] =
        map-append (λ (q : Prepared). q.slot) parts.prepared (p ∷ []) in
        record {
          counted = record {
            counts = bag-more is.counted.counts claim.held (in_use-label s p);
            keeps = λ slot.
                ap (λ ks. slice_index_or ks slot false) claim.kept
                ∙ keeps-push t.kept (kept s) p.slot is.counted.keeps (sym (ap (λ ks. slice_index_or ks p.slot false) claim.kept) ∙ claim.here) slot
                ∙ ap (λ ks. is_among ks slot) (sym slots);
          };
          filled = filled_same claim.sealed (no_more_roomy t after p.base claim.held claim.deferred (held_is_referred t p.base has)) is.filled;
        }

    -- nothing that is referred to stands in it
    none_there : 0 < count_by (λ m. m == p.base) t.held → (n : ℕ) → slice_get after.sealed n ≡ Some p.slot → 0 < references_to after n → ⊥
    none_there has n at some =
        let room = table.swept_table_if_full t in
        free_clear t p.slot claim.takes n (ap (λ ss. slice_get ss n) (sym claim.sealed) ∙ at)
        (no_more_counted room after p.base claim.held claim.deferred (held_is_referred room p.base has) n some)

    pub prepare_kept : 0 < count_by (λ m. m == p.base) t.held → IsKept begun (slice_set store p.slot None) after
    prepare_kept has =
        let words = prepare_words has in
        record {
          counted = record { counts = words.counted.counts; keeps = words.counted.keeps };
          filled = filled_spare store p.slot None refl (λ n some. some) (none_there has) words.filled;
        }

    pub prepare_like : 0 < count_by (λ m. m == p.base) t.held → IsLike (state_of begun (slice_set store p.slot None) after) (state_of begun store after)
    prepare_like has = spare_like store after p.slot None (prepare_words has) (none_there has)

  pub prepare_done : (after : Table) (label task hold slot number : ℕ) (may : MayPrepare s label task hold number) → Claims t after may.base.number slot
      → 0 < count_by (λ m. m == may.base.number) t.held
      → IsOutcomeLike (outcome s (by_prepare s label task hold)) (Kept slot)
      (state_of (record parts { prepared = parts.prepared ++ record { label = label; task = task; base = may.base.number; slot = slot; changed = None } ∷ [] })
      (slice_set store slot None) after)
  unfolding prepare_does
  prepare_done after label task hold slot number may claim has =
      let p : Prepared = record { label = label; task = task; base = may.base.number; slot = slot; changed = None } in
      does_made
      (prepare_tests s label task hold number may ∙ in_free is (prepare_does label task may.base.number) slot claim.takes
      ∙ ap (λ (r : State). (Kept slot, r)) (over_later (record parts { prepared = parts.prepared ++ p ∷ [] }) store t after claim.sealed claim.deferred))
      (prepare_like after p claim has)

  -- ---- a label changes what it prepares

  pub alter_kept : (label : ℕ) (to : Changed) → IsKept (record parts { prepared = with_change parts.prepared label to }) store t
  alter_kept label to = record {
    counted = subst (λ (ns : List ℕ). IsCounted ns (kept (record s { prepared = with_change parts.prepared label to })) t) (sym (in_use-altered s label to))
        (subst (λ (ks : List ℕ). IsCounted (in_use s) ks t) (sym (kept-altered s label to)) is.counted);
    filled = is.filled;
  }

  -- ---- a label gives up

  module _ (place : ℕ) (p : Prepared) (there : slice_get parts.prepared place ≡ Some p) where
    kept-there : slice_get (kept s) place ≡ Some p.slot
    kept-there = slice_get-map (λ (q : Prepared). q.slot) parts.prepared place ∙ ap (option_map (λ (q : Prepared). q.slot)) there

    -- the slot of a prepared label is kept, and its base held
    pub slot-kept : is_kept_in t p.slot ≡ true
    slot-kept = is.counted.keeps p.slot ∙ among-at (kept s) place p.slot kept-there

    pub base-held : 0 < count_by (λ m. m == p.base) t.held
    base-held = bag-at p.base is.counted.counts (bag-has (in_use-unlabel s place p there))

    -- which slots are kept once it is given up
    pub keeps-less : AllPairs (λ a b. a ≢ b) (kept s) → (slot : ℕ)
        → slice_index_or (slice_set t.kept p.slot false) slot false ≡ is_among (kept (record s { prepared = remove parts.prepared place })) slot
    keeps-less own slot =
        keeps-remove t.kept (kept s) place p.slot own kept-there is.counted.keeps slot
        ∙ ap (λ ks. is_among ks slot) (sym (remove-map (λ (q : Prepared). q.slot) parts.prepared place))

    module _ (after : Table) (held : IsSameBag t.held (p.base ∷ after.held)) (sealed : after.sealed ≡ t.sealed)
        (deferred : after.deferred ≡ t.deferred ++ p.base ∷ []) where
      abbrev left : StateLists
      left = record parts { prepared = remove parts.prepared place }

      pub abort_kept : AllPairs (λ a b. a ≢ b) (kept s) → after.kept ≡ slice_set t.kept p.slot false → IsKept left store after
      abort_kept own frees = record {
        counted = record {
          counts = bag-less is.counted.counts held (in_use-unlabel s place p there);
          keeps = λ slot. ap (λ ks. slice_index_or ks slot false) frees ∙ keeps-less own slot;
        };
        filled = filled_same sealed (no_more_dropped t after (p.base ∷ []) held deferred) is.filled;
      }

      pub abort_done : (label : ℕ) → position (λ q. q.label == label) parts.prepared ≡ Some place
          → outcome s (by_abort s label) ≡ (Done, state_of left store after)
      abort_done label at =
          abort_tests s label place p at there
          ∙ ap (λ (r : State). (Done, r)) (over_later left store t after sealed deferred)

-- ---- what was found before a label begins

pub present : (number : ℕ) (tasks : List Task) (test : Bool) → test ≡ is_some (find (λ u. u.number == number) tasks) → test ≡ true
    → (u : Task) × (find (λ v. v.number == number) tasks ≡ Some u)
present number tasks test tests alive = by (find (λ u. u.number == number) tasks) refl tests
  where
    by : (found : Option Task) → find (λ u. u.number == number) tasks ≡ found → test ≡ is_some found
        → (u : Task) × (find (λ v. v.number == number) tasks ≡ Some u)
    by None is tests = cc
    by (Some u) is tests = (u, is)

pub held_hold : (found : Option Hold) (number : ℕ) → Some number ≡ option_map (λ h. h.number) found → (h : Hold) × (found ≡ Some h) × (h.number ≡ number)
held_hold None number is = cc
held_hold (Some h) number is = (h, refl, cc)

pub neither_found : {X Y : Type 0} (x : Option X) (y : Option Y) (test : Bool) → test ≡ (is_some x || is_some y) → test ≡ false → (x ≡ None) × (y ≡ None)
neither_found None None test is none = (refl, refl)
neither_found None (Some y) test is none = cc
neither_found (Some x) y test is none = cc
