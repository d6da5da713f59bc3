-- Every order's rows, by evaluation. Assumes nothing.
use mathlib.Core.Path.{refl}
use Rattle.le.specs.Le.{le_at, le_bytes, put_bytes, bytes_of}
use Rattle.fletcher.specs.Fletcher.{words_at, sum_of as word_sum, weighted_of, fletcher_of}
use Rattle.window.specs.Window.{offset_in}
use Rattle.reply.specs.Scan.{scan}
use Rattle.reply.specs.Some.{some_below}
use Rattle.directory.specs.Directory.{directory_checks, directory_by_cookie}
use Rattle.entries.specs.Part.{leads_to, part_within, part_of}
use Rattle.efs.specs.Efs.{candidate_at, pointer_to, pointer_of}
use Rattle.flash.specs.Flash.{flash_directory}
use Rattle.walk.specs.Walk.{entries_from, below_of, first_in}
use Rattle.place.specs.Place.{check_at}
use Rattle.build.specs.Write.{entry_bytes, start_of, room_for}
use Rattle.aspt.specs.Rules.{sum_of, fresh, id_fits, registers_fit, structure_checks, structures_checks}
use Rattle.aspt.specs.Bytes.{reserved_zero}
use Rattle.aspt.specs.Calls.{header_checks, table_of, read_of, admit_of}
use Rattle.aspt_build.specs.Write.{own_of, structure_bytes, bytes_with, table_bytes, write_of}
use Rattle.guids.specs.Table.{footer, header_of, length_before, entries_in}
use Rattle.guids_build.specs.Write.{start_of as guid_start_of, all_zero, room_for as guid_room_for}
use Rattle.firmware.specs.Word.{word_of}
use Rattle.firmware.specs.Rules.{settled_of, delivery_of, rule_of}
use Rattle.mailbox.specs.Consistent.{posts_fit, register_fits, times_in, register_holds, all_below, consistent_of}
use Rattle.mailbox_calls.specs.Calls.{post_of, load_of, turn_of, unload_of, take_of}
use Rattle.values.specs.Orders.{Orders}

pub orders : Orders
unfolding le_at le_bytes put_bytes words_at word_sum weighted_of fletcher_of offset_in scan some_below directory_checks directory_by_cookie leads_to part_within part_of candidate_at pointer_to pointer_of flash_directory entries_from below_of first_in check_at entry_bytes start_of room_for bytes_of sum_of fresh id_fits registers_fit structure_checks structures_checks reserved_zero own_of structure_bytes bytes_with table_bytes header_checks table_of read_of admit_of write_of footer header_of length_before entries_in guid_start_of all_zero guid_room_for word_of settled_of delivery_of rule_of posts_fit register_fits times_in register_holds all_below consistent_of post_of load_of turn_of unload_of take_of
orders = record {
  directory = refl;
  limit = refl;
  flash = refl;
  find = refl;
  find_image_lem = refl;
  part = refl;
  place = refl;
  start = refl;
  extend = refl;
  room = refl;
  aspt_read = refl;
  aspt_write = refl;
  guids = refl;
  guid_start = refl;
  guid_room = refl;
  consistent = refl;
  post = refl;
  take_word = refl;
  load = refl;
  turn = refl;
  unload = refl;
  status = refl;
}
