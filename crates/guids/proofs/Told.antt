-- Two results of a call that fit its promise are equal. Assumes nothing.
use Rattle.reply.specs.Reply.{told_alone, told_search_alone, Settled}
use Rattle.reply.proofs.ReplyLaws.{settled}
use Rattle.reply.proofs.Told.{told_alone_one, told_search_alone_one}
use Prim.Native.Nat.{ℕ}
use Rattle.guids.specs.declared.GuidEntry.{GuidEntry}
use Rattle.guids.specs.declared.Totals.{Totals}
use Rattle.guids.specs.declared.GuidMatch.{GuidMatch}

-- start, extend
pub length_settled : Settled (told_alone {A = ℕ})
length_settled = settled told_alone told_alone_one

-- table
pub totals_settled : Settled (told_alone {A = Totals})
totals_settled = settled told_alone told_alone_one

-- entry
pub guid_entry_settled : Settled (told_alone {A = GuidEntry})
guid_entry_settled = settled told_alone told_alone_one

-- find
pub guid_match_settled : Settled (told_search_alone {A = GuidMatch})
guid_match_settled = settled told_search_alone told_search_alone_one
