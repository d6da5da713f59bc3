-- What a view holds and keeps, and what is answered of the bytes that it holds and the place that it keeps. Assumes nothing: these are definitions.
use Rattle.std.specs.Prelude.{ℕ, List}
use Rattle.reply.specs.Reply.{Reply}
use Rattle.window.specs.declared.Offset.{Offset}
use Rattle.directory.specs.declared.Directory.{Directory}
use Rattle.entries.specs.declared.Entry.{Entry}
use Rattle.entries.specs.declared.Part.{Part}
use Rattle.efs.specs.Rules.{rules_of}
use Rattle.place.specs.Place.{check_at, entry_at, part_at, view_image, view_place}

-- a view of the directory of a level: the bytes of the image that it holds, and the place that it keeps
abbrev pub view_holds : (level : ℕ) → (image : List ℕ) → List ℕ
view_holds level image = view_image (rules_of image) level image

abbrev pub view_keeps : (level : ℕ) → (image : List ℕ) → Offset
view_keeps level image = view_place (rules_of image) level image

-- the directory of a view, by the rules of what it holds: checked again, its level by its cookie
abbrev pub view_check : (held : List ℕ) → (kept : Offset) → Reply Directory
view_check held kept = check_at (rules_of held) held kept.0

-- its entry i, and where the bytes of that lie
abbrev pub view_entry : (held : List ℕ) → (kept : Offset) → (i : ℕ) → Reply Entry
view_entry held kept i = entry_at (rules_of held) held kept.0 i

abbrev pub view_part : (held : List ℕ) → (kept : Offset) → (i : ℕ) → Reply Part
view_part held kept i = part_at (rules_of held) held kept.0 i
