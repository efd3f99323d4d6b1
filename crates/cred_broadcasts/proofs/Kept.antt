-- What stays true of the open broadcasts when one is begun, when a thread waits no longer or a new
-- one waits, and when one is dropped.
use Rattle.std.proofs.Common.{◌≡◌, ◌≢◌, ◌==◌, ◌||◌, not, ℕ, List, [], ◌∷◌, ◌++◌, map, get_or, None, Some, Bool, true, false, if◌then◌else◌, refl, sym, ap, ◌∙◌}
use Rattle.std.proofs.Common.{arith}
use Rattle.std.specs.List.{All, AllPairs, filter}
use Rattle.std.proofs.lemmas.Bool.{cond_both, eqb-false, eqb-true}
use Rattle.std.proofs.lemmas.Bool.Decides.{nat_tests}
use Rattle.std.proofs.lemmas.List.{length_push}
use Rattle.std.proofs.lemmas.List.Elements.{All-filter, All-map, All-push, All-weaker, filter_passes}
use Rattle.std.proofs.lemmas.List.Folds.{list_any-append, list_any_none}
use Rattle.std.proofs.lemmas.List.Kept.{AllPairs-filter}
use Rattle.std.proofs.lemmas.List.Quantifiers.{all_pairs_push}
use Rattle.cred_ids.specs.Ordered.{in_order}
use Rattle.cred_model.specs.State.{Broadcast}
use Rattle.cred_model.specs.Broadcasts.{waits_in, is_open, without_waiter, waits_no_more, with_child, joined, dropped, WaitsNowhere, SharesNone}
use Rattle.cred_model.proofs.Lists.{All-kept, AllPairs-map, AllPairs-weaker, Differ, found, none_passes}
use Rattle.cred_model.proofs.Rising.{Below, any-in_order, length-in_order, rising-in_order, rising_differ}
use Rattle.cred_sound.proofs.Unique.{none_has}
use Rattle.cred_broadcasts.specs.Broadcasts.{broadcast_under, broadcast_within, AreBroadcasts}

abbrev number_of : Broadcast → ℕ
number_of broadcast = broadcast.number

abbrev process_of : Broadcast → ℕ
process_of broadcast = broadcast.process

abbrev IsRising : Broadcast → Type 0
IsRising broadcast = AllPairs Below broadcast.waiting

abbrev pub IsOpen : Broadcast → Type 0
IsOpen broadcast = is_open broadcast ≡ true

-- a change of the elements that keeps what holds of two
AllPairs-kept : {X : Type 0} (R : X → X → Type 0) (f : X → X) (xs : List X) → ((x y : X) → R x y → R (f x) (f y)) → AllPairs R xs
    → AllPairs R (map f xs)
AllPairs-kept R f xs keeps each = AllPairs-map R f xs (AllPairs-weaker R (λ x y. R (f x) (f y)) xs keeps each)

-- of the broadcast that is found under a number
pub open_under : (broadcasts : List Broadcast) (number : ℕ) (broadcast : Broadcast) → broadcast_under broadcasts number ≡ Some broadcast
    → AreBroadcasts broadcasts
    → IsOpen broadcast
open_under broadcasts number broadcast is are = (found IsOpen (λ c. c.number == number) broadcasts broadcast is are.some).0

pub rising_under : (broadcasts : List Broadcast) (number : ℕ) (broadcast : Broadcast) → broadcast_under broadcasts number ≡ Some broadcast
    → AreBroadcasts broadcasts
    → IsRising broadcast
rising_under broadcasts number broadcast is are = (found IsRising (λ c. c.number == number) broadcasts broadcast is are.rising).0

-- ---- one is dropped

pub are_dropped : (process : ℕ) (broadcasts : List Broadcast) → AreBroadcasts broadcasts → AreBroadcasts (dropped process broadcasts)
are_dropped process broadcasts are =
    let others : Broadcast → Bool = λ c. not (c.process == process) in
    record {
      numbers = AllPairs-filter (Differ number_of) others broadcasts are.numbers;
      processes = AllPairs-filter (Differ process_of) others broadcasts are.processes;
      apart = AllPairs-filter SharesNone others broadcasts are.apart;
      rising = All-filter others IsRising broadcasts are.rising;
      some = All-filter others IsOpen broadcasts are.some;
    }

-- ---- a thread waits no longer

fewer_wait : (task n : ℕ) (c : Broadcast) → waits_in n c ≡ false → waits_in n (without_waiter task c) ≡ false
fewer_wait task n c none =
    let goes_on : ℕ → Bool = λ m. not (m == task) in
    let same : ℕ → Bool = λ m. m == n in
    list_any_none same (filter goes_on c.waiting) (All-filter goes_on (λ m. same m ≡ false) c.waiting (none_passes same c.waiting none))

was_waiting : (task n : ℕ) (c : Broadcast) → waits_in n (without_waiter task c) ≡ true → waits_in n c ≡ true
was_waiting task n c is =
    elim (waits_in n c) as (λ b. waits_in n c ≡ b → b ≡ true) [
      | true ↦ λ _. refl
      | false ↦ λ none. let after = fewer_wait task n c none in cc
    ] refl

pub are_left : (task : ℕ) (broadcasts : List Broadcast) → AreBroadcasts broadcasts → AreBroadcasts (waits_no_more task broadcasts)
are_left task broadcasts are =
    let rest = map (without_waiter task) broadcasts in
    let goes_on : ℕ → Bool = λ m. not (m == task) in
    record {
      numbers = AllPairs-filter (Differ number_of) is_open rest
          (AllPairs-kept (Differ number_of) (without_waiter task) broadcasts (λ a b differ. differ) are.numbers);
      processes = AllPairs-filter (Differ process_of) is_open rest
          (AllPairs-kept (Differ process_of) (without_waiter task) broadcasts (λ a b differ. differ) are.processes);
      apart = AllPairs-filter SharesNone is_open rest
          (AllPairs-kept SharesNone (without_waiter task) broadcasts
          (λ a b apart n waits. fewer_wait task n b (apart n (was_waiting task n a waits))) are.apart);
      rising = All-filter is_open IsRising rest
          (All-kept IsRising (without_waiter task) broadcasts (λ c up. AllPairs-filter Below goes_on c.waiting up) are.rising);
      some = filter_passes is_open rest;
    }

-- ---- one is begun

differs : (b : Broadcast) (n m : ℕ) → waits_in n b ≡ true → waits_in m b ≡ false → (m == n) ≡ false
differs b n m waits free =
    elim (m == n) as (λ t. (m == n) ≡ t → t ≡ false) [
      | true ↦ λ same.
          let both : true ≡ false = sym waits ∙ ap (λ k. waits_in k b) (sym (eqb-true m n same)) ∙ free in
          both
      | false ↦ λ other. refl
    ] refl

pub are_begun : (broadcasts : List Broadcast) (broadcast : Broadcast) → broadcast_under broadcasts broadcast.number ≡ None
    → broadcast_within broadcasts broadcast.process ≡ None → All (WaitsNowhere broadcasts) broadcast.waiting → IsRising broadcast → IsOpen broadcast
    → AreBroadcasts broadcasts → AreBroadcasts (broadcasts ++ broadcast ∷ [])
are_begun broadcasts broadcast new one only_here up some are = record {
  numbers = all_pairs_push (Differ number_of) broadcasts broadcast are.numbers (none_has number_of broadcasts broadcast.number new);
  processes = all_pairs_push (Differ process_of) broadcasts broadcast are.processes (none_has process_of broadcasts broadcast.process one);
  apart = all_pairs_push SharesNone broadcasts broadcast are.apart (λ k d lt n waits.
      let same : ℕ → Bool = λ m. m == n in
      list_any_none same broadcast.waiting
      (All-weaker (WaitsNowhere broadcasts) (λ m. same m ≡ false)
      (λ m nowhere. differs (get_or broadcasts k d) n m waits (nowhere k d lt)) broadcast.waiting only_here));
  rising = All-push IsRising broadcasts broadcast are.rising up;
  some = All-push IsOpen broadcasts broadcast are.some some;
}

-- ---- a new thread waits

module _ (parent child : ℕ) where
  abbrev pub joins : Broadcast → Broadcast
  joins broadcast = record broadcast { waiting = in_order (broadcast.waiting ++ child ∷ []) }

  joins_waits : (n : ℕ) (c : Broadcast) → waits_in n (joins c) ≡ (waits_in n c || ((child == n) || false))
  joins_waits n c =
      let same : ℕ → Bool = λ m. m == n in
      any-in_order same (c.waiting ++ child ∷ []) ∙ list_any-append same c.waiting (child ∷ [])

  -- the child is another than one that waits
  other_than : (n : ℕ) (c : Broadcast) → waits_in child c ≡ false → waits_in n c ≡ true → (child == n) ≡ false
  other_than n c free waits = differs c n child waits free

  one_or_child : (n : ℕ) (a b : Broadcast) → SharesNone a b → waits_in child b ≡ false → (s : Bool) → waits_in n a ≡ s
      → (s || ((child == n) || false)) ≡ true → waits_in n b ≡ false
  one_or_child n a b apart free true waits is = apart n waits
  one_or_child n a b apart free false waits is =
      elim (child == n) as (λ t. (child == n) ≡ t → (t || false) ≡ true → waits_in n b ≡ false) [
        | true ↦ λ same _. ap (λ k. waits_in k b) (sym (eqb-true child n same)) ∙ free
        | false ↦ λ other none. cc
      ] refl is

  shares_joined : (a b : Broadcast) → SharesNone a b → waits_in child a ≡ false → waits_in child b ≡ false
      → SharesNone (with_child parent child a) (with_child parent child b)
  shares_joined a b apart free_a free_b =
      elim (waits_in parent a) as (λ s. waits_in parent a ≡ s → (n : ℕ) → waits_in n (if s then joins a else a) ≡ true
      → waits_in n (with_child parent child b) ≡ false) [
        | true ↦ λ in_a n waits.
            ap (λ s. waits_in n (if s then joins b else b)) (apart parent in_a)
            ∙ one_or_child n a b apart free_b (waits_in n a) refl (sym (joins_waits n a) ∙ waits)
        | false ↦ λ out_a n waits.
            elim (waits_in parent b) as (λ s. waits_in n (if s then joins b else b) ≡ false) [
              | true ↦ joins_waits n b
                  ∙ ap (λ t. t || ((child == n) || false)) (apart n waits)
                  ∙ ap (λ t. t || false) (other_than n a free_a waits)
              | false ↦ apart n waits
            ]
      ] refl

  same_number : (c : Broadcast) → (with_child parent child c).number ≡ c.number
  same_number c = cond_both (waits_in parent c) (joins c) c (λ r. r.number ≡ c.number) (λ is. refl) (λ other. refl)

  same_process : (c : Broadcast) → (with_child parent child c).process ≡ c.process
  same_process c = cond_both (waits_in parent c) (joins c) c (λ r. r.process ≡ c.process) (λ is. refl) (λ other. refl)

  joins_rises : (c : Broadcast) → waits_in child c ≡ false → IsRising c → IsRising (joins c)
  joins_rises c free up =
      let w = c.waiting in
      rising-in_order (w ++ child ∷ [])
      (all_pairs_push (λ m n. m ≢ n) w child (rising_differ w up)
      (All-weaker (λ m. (m == child) ≡ false) (λ m. m ≢ child) (λ m. eqb-false m child) w (none_passes (λ m. m == child) w free)))

  joins_open : (c : Broadcast) → IsOpen (joins c)
  joins_open c =
      ap (λ n. not (n == 0)) (length-in_order (c.waiting ++ child ∷ []) ∙ length_push c.waiting child)
      ∙ (grind (arith, nat_tests))

  pub are_joined : (broadcasts : List Broadcast) → WaitsNowhere broadcasts child → AreBroadcasts broadcasts → AreBroadcasts (joined parent child broadcasts)
  are_joined broadcasts nowhere are =
      let g = with_child parent child in
      record {
        numbers = AllPairs-kept (Differ number_of) g broadcasts
            (λ a b differ is. differ (sym (same_number a) ∙ is ∙ same_number b)) are.numbers;
        processes = AllPairs-kept (Differ process_of) g broadcasts
            (λ a b differ is. differ (sym (same_process a) ∙ is ∙ same_process b)) are.processes;
        apart = AllPairs-map SharesNone g broadcasts (λ i j d lt within.
            shares_joined (get_or broadcasts i d) (get_or broadcasts j d) (are.apart i j d lt within)
            (nowhere i d (omega arith)) (nowhere j d within));
        rising = All-map IsRising g broadcasts (λ k d lt.
            let c = get_or broadcasts k d in
            cond_both (waits_in parent c) (joins c) c IsRising (λ is. joins_rises c (nowhere k d lt) (are.rising k d lt))
            (λ other. are.rising k d lt));
        some = All-map IsOpen g broadcasts (λ k d lt.
            let c = get_or broadcasts k d in
            cond_both (waits_in parent c) (joins c) c IsOpen (λ is. joins_open c) (λ other. are.some k d lt));
      }
