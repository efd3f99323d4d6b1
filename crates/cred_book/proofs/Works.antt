-- The works that are out when another lane has one entry more, or when a lane's own work goes out or comes back.
use Rattle.std.proofs.Common.{◌≡◌, ◌≢◌, ℕ, zero, suc, ◌+◌, ◌<◌, Bool, true, List, [], ◌∷◌, ◌++◌, length, set, slice_get, ◌⊎◌, inl, inr, Option, Some, None}
use Rattle.std.proofs.Common.{refl, sym, ap, ◌∙◌, subst, arith}
use Rattle.std.specs.List.{All, Contains, count_by, range_with_len, sum_by}
use Rattle.std.specs.Option.{IfSome, option_and_then}
use Rattle.std.proofs.lemmas.Bool.{cases_eq}
use Rattle.std.proofs.lemmas.List.{length-set}
use Rattle.std.proofs.lemmas.List.Elements.{All-contains_itself, All-weaker}
use Rattle.cred_record.specs.Credential.{Credential}
use Rattle.cred_event.specs.declared.event.Event.{Event}
use Rattle.cred_event.specs.declared.entry.Entry as entered
use Rattle.cred_model.specs.State.{State}
use Rattle.cred_model.specs.Course as model
use Rattle.cred_model.specs.Course.{Course}
use Rattle.cred_model.specs.Journal.{entry_of, replay}
use Rattle.cred_model.proofs.Journals.{replay-push}
use Rattle.cred_names.specs.Labels.{event_labels}
use Rattle.cred_sound.proofs.Sound.{sound_after}
use Rattle.cred_script.specs.Lines.{line_at}
use Rattle.cred_course.specs.Cursor.{MovesOnTo}
use Rattle.cred_course.specs.LaneCursors.{AreCursors, due_of}
use Rattle.cred_course.proofs.Turns.{lanes_go_on}
use Rattle.cred_hold.specs.Tokens.{Loan}
use Rattle.cred_work.specs.declared.pending.Pending.{Pending}
use Rattle.cred_tables.specs.Kept.{SharedWords}
use Rattle.cred_tables.specs.Out.{AreSameTokens, tokens_in, needs_tokens}
use Rattle.cred_state.specs.TokensOut.{loans_of}
use Rattle.cred_state.proofs.Stays.{StillWaits, waiting_stays}
use Rattle.cred_book.specs.Book.{Recorded, answer_of, out_of, with_event}
use Rattle.cred_book.specs.Counts.{IsOutNow}
use Rattle.cred_book.specs.Cursor.{BookStands, moved_on}
use Rattle.cred_book.specs.Works.{IsOutOf, lane_tokens, tokens_out, with_out}
use Rattle.cred_book.proofs.LabelsDiffer.{IsNext, labels_apart}
use Rattle.cred_book.proofs.Joined.{count-append, count-joined, sum-but_one}
use Rattle.cred_book.proofs.Left.{set_up_stays}
use Rattle.cred_book.proofs.LentTokens.{lane_tokens_are, lane_tokens_none, work_next, work_of}
use Rattle.cred_book.proofs.NextEvents.{due_stays, event_of, next_is}

-- ---- lines whose works are out

pub where_some : {A : Type 0} (P : A → Type 0) (o : Option A) → ((x : A) → o ≡ Some x → P x) → IfSome o P
where_some P None each = tt
where_some P (Some x) each = each x refl

get_same : {A : Type 0} (xs : List A) (i : ℕ) (x : A) → i < length xs → slice_get (set xs i x) i ≡ Some x
get_same [] i x lt = absurd (omega arith)
get_same (y ∷ ys) zero x lt = refl
get_same (y ∷ ys) (suc i) x lt = get_same ys i x (omega arith)

get_other : {A : Type 0} (xs : List A) (i j : ℕ) (x : A) → j ≢ i → slice_get (set xs i x) j ≡ slice_get xs j
get_other [] i j x differ = refl
get_other (y ∷ ys) zero zero x differ = absurd (differ refl)
get_other (y ∷ ys) zero (suc j) x differ = refl
get_other (y ∷ ys) (suc i) zero x differ = refl
get_other (y ∷ ys) (suc i) (suc j) x differ = get_other ys i j x (λ same. differ (ap suc same))

-- the line of a lane's work, in a list of them
abbrev pub out_in : List (Option ℕ) → ℕ → Option ℕ
out_in outs lane = option_and_then (λ line. line) (slice_get outs lane)

-- one lane's is now this, and the others' are as they were
pub record IsNowOut (before after : List (Option ℕ)) (lane : ℕ) (line : Option ℕ) : Type 0 where
  pub long : length after ≡ length before
  pub own : out_in after lane ≡ line
  pub others : (other : ℕ) → other ≢ lane → out_in after other ≡ out_in before other

pub out_set : (outs : List (Option ℕ)) (lane : ℕ) (line : Option ℕ) → lane < length outs → IsNowOut outs (set outs lane line) lane line
out_set outs lane line within = record {
  long = length-set outs lane line;
  own = ap (option_and_then (λ l. l)) (get_same outs lane line within);
  others = λ other differ. ap (option_and_then (λ l. l)) (get_other outs lane other line differ);
}

pub out_same : (outs : List (Option ℕ)) (lane : ℕ) (line : Option ℕ) → out_in outs lane ≡ line → IsNowOut outs outs lane line
out_same outs lane line is = record { long = refl; own = is; others = λ other differ. refl }

-- a lane that has a work has a place
pub out_within : (outs : List (Option ℕ)) (lane line : ℕ) → out_in outs lane ≡ Some line → lane < length outs
out_within [] lane line is = cc
out_within (o ∷ outs) zero line is = omega arith
out_within (o ∷ outs) (suc lane) line is = let rest = out_within outs lane line is in omega (arith, rest)

-- ---- one entry more of a lane

module _ (book : Recorded) (lane : ℕ) (course : Course) (event : Event) (to : Option Course) where
  abbrev pub made : entered.Entry
  made = entry_of book.script book.journal (record { line = course.line; event = event })

  abbrev pub grown : List entered.Entry
  grown = book.journal ++ made ∷ []

  -- the book after it, of which these works are out
  abbrev pub after : List (Option ℕ) → SharedWords → List (Option Credential) → Recorded
  after outs words places =
      record (moved_on (with_event book course.line event) lane course.line to) { outs = outs; words = words; places = places }

  -- how the lane goes on
  pub record GoesOn : Type 0 where
    pub stands : BookStands book
    pub due : due_of book.cursors lane ≡ Some course
    pub has : event_of book.script course ≡ Some event
    pub passes : IfSome (line_at book.script course.line)
        (λ line. MovesOnTo book.script lane (model.after line.content course (answer_of book course.line event)) to)

module _ {book : Recorded} {lane : ℕ} {course : Course} {event : Event} {to : Option Course} (goes : GoesOn book lane course event to) where
  now : AreCursors book.script (grown book lane course event to) (set book.cursors lane to)
  now =
      lanes_go_on book.script book.journal book.cursors lane course (made book lane course event to) to goes.stands.cursors goes.due refl goes.passes

  next : IsNext book.script book.journal lane (record { line = course.line; event = event })
  next = next_is book.script book.journal book.cursors lane course event goes.stands.cursors goes.due goes.has

  -- a work of another lane waits still
  still : (other line : ℕ) (work : IsOutOf book other line) → other ≢ lane
      → StillWaits (replay book.script book.journal) (replay book.script (grown book lane course event to)) work.event
  still other line work differ =
      let apart : All (λ label. Contains (event_labels event) label → ⊥) (event_labels work.event)
      = All-weaker (Contains (event_labels work.event)) (λ label. Contains (event_labels event) label → ⊥)
      (λ label has named. labels_apart book.script book.journal other lane (record { line = line; event = work.event })
      (record { line = course.line; event = event }) label goes.stands.named (work_next book other line work) next differ has named)
      (event_labels work.event) (All-contains_itself (event_labels work.event)) in
      subst (λ (s : State). StillWaits (replay book.script book.journal) s work.event)
      (sym (replay-push book.script book.journal (made book lane course event to)))
      (waiting_stays book.script (replay book.script book.journal) course.line event (sound_after book.script book.journal) work.event work.waits apart)

  module _ (outs : List (Option ℕ)) (words : SharedWords) (places : List (Option Credential)) (out : IsNowOut book.outs outs lane None) where
    abbrev later : Recorded
    later = after book lane course event to outs words places

    work_stays : (other line : ℕ) (work : IsOutOf book other line) → other ≢ lane → IsOutOf later other line
    work_stays other line work differ = record {
      event = work.event;
      due = due_stays book.script book.journal (grown book lane course event to) book.cursors lane other to goes.stands.cursors now differ ∙ work.due;
      waits = (still other line work differ).waits;
      set_up = λ some. set_up_stays book.script book.journal (grown book lane course event to) book.cursors lane course to goes.stands.cursors goes.due now
          (work.set_up some);
    }

    pub works_stay : (other : ℕ) → IfSome (out_of later other) (IsOutOf later other)
    works_stay other = where_some (IsOutOf later other) (out_of later other) (λ line is. by line is (cases_eq other lane))
      where
        by : (line : ℕ) → out_of later other ≡ Some line → (other ≡ lane) ⊎ (other ≢ lane) → IsOutOf later other line
        by line is (inl same) = let both : Some line ≡ None = sym is ∙ ap (out_in outs) same ∙ out.own in absurd (cc)
        by line is (inr differ) =
            let was : out_of book other ≡ Some line = sym (out.others other differ) ∙ is in
            work_stays other line (work_of book other line goes.stands was) differ

    tokens_stay : (other : ℕ) → other ≢ lane → lane_tokens later other ≡ lane_tokens book other
    unfolding work_stays
    tokens_stay other differ = by (out_of book other) refl
      where
        by : (o : Option ℕ) → out_of book other ≡ o → lane_tokens later other ≡ lane_tokens book other
        by None was = lane_tokens_none later other (out.others other differ ∙ was) ∙ sym (lane_tokens_none book other was)
        by (Some line) was =
            let work = work_of book other line goes.stands was in
            lane_tokens_are later other line (out.others other differ ∙ was) (work_stays other line work differ)
            ∙ (still other line work differ).tokens
            ∙ sym (lane_tokens_are book other line was work)

    -- what is lent is still the tokens of the works, where the lane's own have come back
    pub lent_stays : lane < length book.outs
        → ((test : Loan → Bool) → count_by test book.words.out ≡ count_by test (lane_tokens book lane) + count_by test words.out)
        → AreSameTokens words.out (tokens_out later)
    lent_stays within back test =
        let one = count-joined test (λ lane. lane_tokens later lane) (range_with_len 0 (length outs)) in
        let other = count-joined test (λ lane. lane_tokens book lane) (range_with_len 0 (length book.outs)) in
        let both = sum-but_one (λ lane. count_by test (lane_tokens later lane)) (λ lane. count_by test (lane_tokens book lane)) 0 (length book.outs) lane
        (omega arith) (omega (arith, within)) (λ k differ. ap (count_by test) (tokens_stay k differ)) in
        let none : count_by test (lane_tokens later lane) ≡ 0 = ap (count_by test) (lane_tokens_none later lane out.own) in
        let same = ap (λ n. sum_by (λ lane. count_by test (lane_tokens later lane)) (range_with_len 0 n)) out.long in
        let lent = goes.stands.lent test in
        let returned = back test in
        omega (arith, one, other, both, none, same, lent, returned)

-- ---- a work that goes out

module _ (book : Recorded) (lane line : ℕ) (event : Event) (lent : Pending) (stands : BookStands book) (home : out_of book lane ≡ None)
    (next : IsNext book.script book.journal lane (record { line = line; event = event }))
    (waits : needs_tokens (replay book.script book.journal) event ≡ true)
    (tokens : loans_of lent ≡ tokens_in (replay book.script book.journal) event)
    (within : lane < length book.outs) where
  abbrev lending : Recorded
  lending = with_out book lane line lent

  sets : IsNowOut book.outs (set book.outs lane (Some line)) lane (Some line)
  sets = out_set book.outs lane (Some line) within

  same_work : (other its : ℕ) → IsOutOf book other its → IsOutOf lending other its
  same_work other its work = record { event = work.event; due = work.due; waits = work.waits; set_up = work.set_up }

  own_work : IsOutOf lending lane line
  own_work = record { event = event; due = next.is; waits = waits; set_up = next.set_up }

  works_too : (other : ℕ) → IfSome (out_of lending other) (IsOutOf lending other)
  works_too other = where_some (IsOutOf lending other) (out_of lending other) (λ its is. by its is (cases_eq other lane))
    where
      by : (its : ℕ) → out_of lending other ≡ Some its → (other ≡ lane) ⊎ (other ≢ lane) → IsOutOf lending other its
      by its is (inl same) =
          let here : Some line ≡ Some its = sym sets.own ∙ ap (out_in (set book.outs lane (Some line))) (sym same) ∙ is in
          let it : line ≡ its = cc in
          subst (λ l. IsOutOf lending l its) (sym same) (subst (IsOutOf lending lane) it own_work)
      by its is (inr differ) =
          let was : out_of book other ≡ Some its = sym (sets.others other differ) ∙ is in
          same_work other its (work_of book other its stands was)

  other_tokens : (other : ℕ) → other ≢ lane → lane_tokens lending other ≡ lane_tokens book other
  unfolding same_work
  other_tokens other differ = by (out_of book other) refl
    where
      by : (o : Option ℕ) → out_of book other ≡ o → lane_tokens lending other ≡ lane_tokens book other
      by None was = lane_tokens_none lending other (sets.others other differ ∙ was) ∙ sym (lane_tokens_none book other was)
      by (Some its) was =
          let work = work_of book other its stands was in
          lane_tokens_are lending other its (sets.others other differ ∙ was) (same_work other its work)
          ∙ sym (lane_tokens_are book other its was work)

  lent_too : AreSameTokens (loans_of lent ++ book.words.out) (tokens_out lending)
  unfolding own_work
  lent_too test =
      let one = count-joined test (λ lane. lane_tokens lending lane) (range_with_len 0 (length (set book.outs lane (Some line)))) in
      let other = count-joined test (λ lane. lane_tokens book lane) (range_with_len 0 (length book.outs)) in
      let both = sum-but_one (λ lane. count_by test (lane_tokens lending lane)) (λ lane. count_by test (lane_tokens book lane)) 0 (length book.outs) lane
      (omega arith) (omega (arith, within)) (λ k differ. ap (count_by test) (other_tokens k differ)) in
      let own : count_by test (lane_tokens lending lane) ≡ count_by test (loans_of lent)
      = ap (count_by test) (lane_tokens_are lending lane line sets.own own_work ∙ sym tokens) in
      let none : count_by test (lane_tokens book lane) ≡ 0 = ap (count_by test) (lane_tokens_none book lane home) in
      let same = ap (λ n. sum_by (λ lane. count_by test (lane_tokens lending lane)) (range_with_len 0 n)) sets.long in
      let all = count-append test (loans_of lent) book.words.out in
      let was = stands.lent test in
      omega (arith, one, other, both, own, none, same, all, was)

  -- what is lent is the tokens of the works that are out now
  pub lends : BookStands lending
  lends = record {
    so_far = stands.so_far;
    cursors = stands.cursors;
    ended = stands.ended;
    places = stands.places;
    few = stands.few;
    most = stands.most;
    setup = stands.setup;
    fixed = stands.fixed;
    named = stands.named;
    outs = sets.long ∙ stands.outs;
    works = works_too;
    lent = lent_too;
  }

  pub lends_now : IsOutNow book lending lane (Some line)
  lends_now = record { own = sets.own; others = sets.others }
