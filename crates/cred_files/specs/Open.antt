-- The open files of the system, in the order in which they were opened: what is found among them,
-- and what is left when one is closed (open(2), close(2)).
use Rattle.std.specs.Prelude.{◌≡◌, ℕ, ◌==◌, ◌≤◌, nat_eq, List, find, length, map, position, remove}
use Rattle.std.specs.Prelude.{slice_get, Some}
use Rattle.std.specs.declared.option.Option.{Option}
use Rattle.std.specs.List.{IsDistinct}
use Rattle.cred_ids.specs.Limits.{OPEN_FILES}
use Rattle.cred_model.specs.State.{OpenFile}
use Rattle.cred_files.specs.declared.file_description.FileDescription.{FileDescription}

-- What is true of the open files at all times.
pub record AreOpen (files : List OpenFile) : Type 0 where
  -- no two share a descriptor
  pub apart : IsDistinct nat_eq (map (λ f. f.fd) files)
  pub few : length files ≤ OPEN_FILES

-- the file that is open at a descriptor
abbrev pub file_under : List OpenFile → ℕ → Option OpenFile
file_under files fd = find (λ f. f.fd == fd) files

-- where a descriptor stands among the open files
abbrev pub descriptor_place : List OpenFile → ℕ → Option ℕ
descriptor_place files fd = position (λ f. f.fd == fd) files

-- The descriptor was closed, whose file was opened by the credential of this number, and the other
-- files stay in their order.
pub record Closes (before after : List OpenFile) (fd opener : ℕ) : Type 0 where
  pub place : ℕ
  pub file : ℕ
  pub found : descriptor_place before fd ≡ Some place
  pub there : slice_get before place ≡ Some (record { fd = fd; opener = opener; file = file })
  pub left : after ≡ remove before place

-- ---- how the open files are kept: each by its descriptor

-- an entry of the map, as an open file
abbrev pub file_as : ℕ → FileDescription → OpenFile
file_as fd f = record { fd = fd; opener = f.opener; file = f.file }

abbrev pub open_files : List (ℕ × FileDescription) → List OpenFile
open_files entries = map (λ e. file_as e.0 e.1) entries
