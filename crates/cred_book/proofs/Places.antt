-- What stands in the slots of a book, and that nothing is lent once no line is left.
use Rattle.std.proofs.Common.{◌≡◌, ℕ, ◌+◌, ◌<◌, ◌==◌, cond, Bool, true, false, List, [], ◌∷◌, length, slice_get, inl, inr, Option, Some, None, refl, sym, ap}
use Rattle.std.proofs.Common.{◌∙◌, subst, arith}
use Rattle.std.specs.List.{All, count_by}
use Rattle.std.specs.Option.{option_map, option_map_or}
use Rattle.std.proofs.lemmas.Bool.{eqb-true}
use Rattle.std.proofs.lemmas.List.Elements.{All-head, All-tail}
use Rattle.std.proofs.lemmas.List.Sums.{get_or-le-sum_by}
use Rattle.cred_record.specs.Credential.{Credential}
use Rattle.cred_event.specs.declared.event.Event.{Event}
use Rattle.cred_event.specs.declared.entry.Entry.{Entry}
use Rattle.cred_model.specs.Script.{Line}
use Rattle.cred_model.specs.State.{State}
use Rattle.cred_model.specs.Slots.{refs}
use Rattle.cred_model.specs.Like.{IsLike}
use Rattle.cred_model.specs.Journal.{Due, due_in, entry_of, first_due, next_event}
use Rattle.cred_model.proofs.Likes.{refs_same}
use Rattle.cred_words.specs.Lists.{Has}
use Rattle.cred_hold.specs.Tokens.{Loan}
use Rattle.cred_tables.specs.Kept.{AreInPlace}
use Rattle.cred_book.specs.Book.{Recorded, out_of}
use Rattle.cred_book.specs.Cursor.{BookStands, NoLineIsLeft}
use Rattle.cred_book.proofs.Joined.{one_if, some_passes}
use Rattle.cred_book.proofs.LentTokens.{lent_by, work_of}

-- ---- in the words of their slots

each_has : {A : Type 0} (P : A → Type 0) (xs : List A) (x : A) → All P xs → Has xs x → P x
each_has P [] x each has = absurd has
each_has P (y ∷ xs) x each (inl is) = subst P is (All-head P y xs each)
each_has P (y ∷ xs) x each (inr has) = each_has P xs x (All-tail P y xs each) has

-- what is in place for a state is so for one that it is like
pub in_place_like : (a b : State) (places : List (Option Credential)) → IsLike a b → AreInPlace a places → AreInPlace b places
in_place_like a b places like here n sealed some at =
    let own : 0 < count_by (λ m. m == n) (refs a)
    = subst (λ (ns : List ℕ). 0 < count_by (λ m. m == n) ns) (sym (refs_same a b like)) some in
    let found = some_passes (λ m. m == n) (refs a) own in
    let same : slice_get a.creds n ≡ slice_get b.creds n
    = subst (λ m. slice_get a.creds m ≡ slice_get b.creds m) (eqb-true found.it n found.passes)
    (each_has (λ m. slice_get a.creds m ≡ slice_get b.creds m) (refs a) found.it like.creds found.is) in
    here n sealed own (same ∙ at)

-- ---- no line is left

not_due : (event : Option Event) (number : ℕ) (all these : Option Due) (own : Bool)
    → option_map_or (λ event. Some (record { line = number; event = event })) event all ≡ None → (all ≡ None → these ≡ None)
    → cond own (option_map_or (λ event. Some (record { line = number; event = event })) event these) these ≡ None
not_due None number all these true none rest = rest none
not_due None number all these false none rest = rest none
not_due (Some event) number all these own none rest = cc

-- where no line is due, none of some of them is
none_of_these : (these : Line → Bool) (journal : List Entry) (number : ℕ) (lines : List Line) → first_due (λ line. true) journal number lines ≡ None
    → first_due these journal number lines ≡ None
none_of_these these journal number [] none = refl
none_of_these these journal number (line ∷ lines) none =
    not_due (next_event journal number line.content) number (first_due (λ line. true) journal (number + 1) lines) (first_due these journal (number + 1) lines)
    (these line) none (none_of_these these journal (number + 1) lines)

none_mapped : {A B : Type 0} (f : A → B) (o : Option A) → option_map f o ≡ None → o ≡ None
none_mapped f None none = refl
none_mapped f (Some x) none = cc

not_both : {A : Type 0} (o : Option A) (x : A) → o ≡ None → o ≡ Some x → ⊥
not_both None x none some = cc
not_both (Some y) x none some = cc

lane_none : (book : Recorded) (lane : ℕ) → NoLineIsLeft book → due_in book.script book.journal lane ≡ None
lane_none book lane none =
    none_of_these (λ line. line.lane == lane) book.journal 1 book.script.lines
    (none_mapped (entry_of book.script book.journal) (first_due (λ line. true) book.journal 1 book.script.lines) none)

-- a book of which no work is out has lent nothing
pub none_lent : (book : Recorded) → BookStands book → ((lane : ℕ) → out_of book lane ≡ None) → book.words.out ≡ []
none_lent book stands home = by book.words.out refl
  where
    by : (out : List Loan) → book.words.out ≡ out → out ≡ []
    by [] is = refl
    by (e ∷ out) is =
        let long : length book.words.out ≡ length (e ∷ out) = ap length is in
        let within : 0 < length book.words.out = omega (arith, long) in
        let most = get_or-le-sum_by (λ (x : Loan). one_if true) book.words.out 0 e within in
        let at = lent_by book (λ x. true) stands (omega (arith, most)) in
        let both : Some at.line ≡ None = sym at.out ∙ home at.lane in
        absurd (cc)

-- and no work is out where no line is left
pub all_home : (book : Recorded) → BookStands book → NoLineIsLeft book → book.words.out ≡ []
all_home book stands none = none_lent book stands (λ lane. by lane (out_of book lane) refl)
  where
    by : (lane : ℕ) (o : Option ℕ) → out_of book lane ≡ o → o ≡ None
    by lane None out = refl
    by lane (Some line) out =
        let work = work_of book lane line stands out in
        absurd (not_both (due_in book.script book.journal lane) (record { line = line; event = work.event }) (lane_none book lane none) work.due)
