use mathlib.Core.Path.{◌≡◌}
use lib.ListN.{length}
use native.Mathlib.Omega.{arith}
use Rattle.guids_build.proofs.Writing.{room_facts, written_long, written_entry}
use Rattle.guids_build.proofs.append.Goals as goal

pub overflow_sub-at : goal.overflow_sub-at
overflow_sub-at c = omega (arith, (room_facts _ _ _ c.requires).good.header)

pub overflow_sub-from : goal.overflow_sub-from
overflow_sub-from c = omega (arith, (room_facts _ _ _ c.requires).good.header)

pub overflow_sub-from-2 : goal.overflow_sub-from-2
overflow_sub-from-2 c = omega (arith, room_facts _ _ _ c.requires)

pub overflow_cast-total : goal.overflow_cast-total
overflow_cast-total c = omega (arith, (room_facts _ _ _ c.requires).small)

pub overflow_cast-bytes : goal.overflow_cast-bytes
overflow_cast-bytes c = let room = room_facts _ _ _ c.requires in omega (arith, room.new, room.small)

pub put_end-requires : goal.put_end-requires
put_end-requires c = let a = c.args in
    let room = room_facts _ _ _ c.requires in
    let long = written_long a.buf.now a.bytes.now a.total in
    let same : length c.put_bytes.new.buf ≡ length a.buf.now = cc in
    omega (arith, room.new, room.fits)

pub returns : goal.returns
returns c = let a = c.args in
    let entry = written_entry a.buf.now a.bytes.now a.total a.guid (room_facts _ _ _ c.requires) in
    cc
