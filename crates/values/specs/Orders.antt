-- Each order of checks gives the number of the first that fails, and where it was met, stated for rows of inputs: no two neighbours have exchanged places or numbers. The proof stands in proofs/Orders.antt.
use Rattle.std.specs.Prelude.{ℕ, ◌≡◌, List, map, length, replicate}
use Rattle.reply.specs.Reply.{Reply, Carried, given, refused, alone}
use Rattle.lent.specs.Lent.{number_of}
use Rattle.directory.specs.Directory.{psp_kind, directory_of, directory_at}
use Rattle.entries.specs.Part.{part_in}
use Rattle.flash.specs.Flash.{flash_directory, flash_find}
use Rattle.walk.specs.Walk.{find_image}
use Rattle.place.specs.Place.{check_at}
use Rattle.build.specs.Write.{start_of, extend_of, room_for}
use Rattle.aspt.specs.Calls.{read_of}
use Rattle.aspt_build.specs.Write.{write_of}
use Rattle.guids.specs.Table.{table_of}
use Rattle.guids_build.specs.Write.{start_of as guid_start_of, room_for as guid_room_for}
use Rattle.firmware.specs.Word.{status_in}
use Rattle.firmware.specs.Rules.{run_of}
use Rattle.mailbox_calls.specs.Calls.{post_of, load_of, turn_of, unload_of, take_of}
use Rattle.values.specs.Images.{Row, zeros, at_the_start, directory_rows, limit_rows, flash_rows, twice, part_rows, place_rows, start_rows, extend_rows, room_rows}
use Rattle.values.specs.Lookups.{Sought, find_rows, find_image_rows}
use Rattle.values.specs.Tables.{read_rows, write_rows, guid_rows, guid_start_rows, guid_room_rows}
use Rattle.values.specs.Mailboxes.{consistent_rows, post_rows, take_rows, step_number, load_rows, turn_rows, unload_rows, status_rows}

-- every row has the number that is answered
abbrev pub Right : {A : Type 0} → (A → ℕ) → List (Row A) → Type 0
Right answered rows = map (λ r. answered r.input) rows ≡ map (λ r. r.number) rows

-- what a call's number carries: nothing where it gives
abbrev pub carried_by : {A : Type 0} → Reply A → Carried
carried_by (given a) = alone
carried_by (refused number carried) = carried

-- every row has the number that is answered, and what it carries
abbrev pub RightPlaces : {A B : Type 0} → (A → Reply B) → List (Row A) → Type 0
RightPlaces answer rows = map {B = ℕ × Carried} (λ r. (number_of (answer r.input), carried_by (answer r.input))) rows ≡ map (λ r. (r.number, r.carried)) rows

-- every lookup has the answer that is due, with its count
abbrev pub Answered : {A B : Type 0} → (A → B) → List (Sought A B) → Type 0
Answered answer rows = map (λ r. answer r.input) rows ≡ map (λ r. r.due) rows

pub record Orders : Type 0 where
  pub directory : RightPlaces (λ s. directory_at psp_kind 512 2 s 0) directory_rows
  pub limit : RightPlaces (λ s. directory_at psp_kind 1 2 s 0) limit_rows
  pub flash : RightPlaces (λ a. flash_directory (at_the_start a.1) a.0 a.1) flash_rows
  pub find : Answered (λ a. flash_find (at_the_start a.1) a.0 a.1 a.2 0) find_rows
  pub find_image_lem : Answered (λ a. find_image (at_the_start a.0) a.0 a.1 a.2) find_image_rows
  pub part : RightPlaces (λ a. part_in psp_kind (length (twice a.1)) (twice a.1) (directory_of 0 1 1) a.0) part_rows
  pub place : RightPlaces (λ a. check_at (at_the_start a.0) a.0 a.1) place_rows
  pub start : RightPlaces (λ a. start_of a.0 a.1) start_rows
  pub extend : RightPlaces (λ a. extend_of a.0 a.1) extend_rows
  pub room : RightPlaces (λ a. room_for a.0 (zeros a.1) (directory_of 0 2 a.2)) room_rows
  pub aspt_read : Right (λ s. number_of (read_of s)) read_rows
  pub aspt_write : Right (λ a. number_of (write_of a.0 (replicate a.1 0))) write_rows
  pub guids : Right (λ s. number_of (table_of s)) guid_rows
  pub guid_start : Right (λ s. number_of (guid_start_of s)) guid_start_rows
  pub guid_room : Right (λ a. number_of (guid_room_for a.0 a.1 a.2)) guid_room_rows
  pub consistent : Right (λ m. number_of (load_of m).answer) consistent_rows
  pub post : Right (λ a. number_of (post_of a.0 a.1 a.2 0).answer) post_rows
  pub take_word : Right (λ a. number_of (take_of a.0 a.1).answer) take_rows
  pub load : Right (λ m. step_number (load_of m).answer) load_rows
  pub turn : Right (λ m. step_number (turn_of m).answer) turn_rows
  pub unload : Right (λ m. step_number (unload_of m).answer) unload_rows
  pub status : Right (λ a. status_in (run_of a.0 a.1).word) status_rows
