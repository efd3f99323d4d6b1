-- Which lane has which tasks and labels: outside the setup a task that acts, and a label, stands in
-- the lines of one lane alone.
use Rattle.std.specs.Prelude.{◌≡◌, ℕ, ◌==◌, Bool, true, ◌&&◌, ◌||◌, nat_eq, List, [], ◌∷◌, ◌++◌}
use Rattle.std.specs.Prelude.{All, Some, is_some, if◌then◌else◌}
use Rattle.std.specs.declared.option.Option.{Option}
use Rattle.std.specs.List.{cons_option, list_all}
use Rattle.std.specs.Map.{lookup}
use Rattle.std.specs.Option.{option_map_or}
use Rattle.cred_event.specs.declared.content.Content.{Content}
use Rattle.cred_names.specs.Labels.{labels}

-- Tasks, or labels, by their numbers, each with the lane whose line was the first to name it. What
-- the setup's lines name isn't kept. A line that names what a line of another lane has named is
-- bad, so all lines that named it are of this lane.
abbrev pub Owners : Type 0
Owners = List (ℕ × ℕ)

-- the lane whose lines have named it
abbrev pub owner_of : Owners → ℕ → Option ℕ
owner_of owners number = lookup (nat_eq number) owners

-- no line of another lane has named it
abbrev pub is_free : Owners → ℕ → ℕ → Bool
is_free owners lane number = option_map_or (λ owner. owner == lane) (owner_of owners number) true

-- none of these is named by a line of another lane
abbrev pub are_free : Owners → ℕ → List ℕ → Bool
are_free owners lane numbers = list_all (is_free owners lane) numbers

-- a line of this lane names it
abbrev pub with_owner : Owners → ℕ → ℕ → Owners
with_owner owners lane number =
    if is_some (owner_of owners number) then owners else owners ++ (number, lane) ∷ []

-- a line of this lane names all of these
abbrev pub with_owners : Owners → ℕ → List ℕ → Owners
with_owners owners lane [] = owners
with_owners owners lane (number ∷ numbers) =
    with_owners (with_owner owners lane number) lane numbers

-- The lane that the lines belong to now, and which lane has which tasks and labels.
pub record Lanes : Type 0 where
  pub current : ℕ
  pub tasks : Owners
  pub labels : Owners

-- before the first line
abbrev pub no_lanes : Lanes
no_lanes = record { current = 0; tasks = []; labels = [] }

-- A line that names this task, as one that acts, and that holds this may stand now. A line of the
-- setup may name any task and any label.
abbrev pub may_name : Lanes → Option ℕ → Content → Bool
may_name lanes by content =
    lanes.current == 0
    || are_free lanes.tasks lanes.current (cons_option by [])
    && are_free lanes.labels lanes.current (labels content)

-- the lanes after such a line
abbrev pub naming : Lanes → Option ℕ → Content → Lanes
naming lanes by content =
    if lanes.current == 0 then lanes
    else record lanes {
      tasks = with_owners lanes.tasks lanes.current (cons_option by []);
      labels = with_owners lanes.labels lanes.current (labels content);
    }

-- whatever had an owner has it still
abbrev pub KeepsOwners : Owners → Owners → Type 0
KeepsOwners old new =
    (number lane : ℕ) → owner_of old number ≡ Some lane → owner_of new number ≡ Some lane

-- the same of tasks and of labels, and the lane stays
pub record KeepsLanes (old new : Lanes) : Type 0 where
  pub current : new.current ≡ old.current
  pub tasks : KeepsOwners old.tasks new.tasks
  pub labels : KeepsOwners old.labels new.labels

-- the lane has all of these
abbrev pub HasAll : Owners → ℕ → List ℕ → Type 0
HasAll owners lane numbers = All (λ number. owner_of owners number ≡ Some lane) numbers
