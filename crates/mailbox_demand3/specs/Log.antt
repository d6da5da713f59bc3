-- What an onlooker writes down, from the calls and their answers alone, and a run of calls. Assumes nothing: these are definitions.
use Rattle.std.specs.Prelude.{true, false, List, [], ◌∷◌, ◌++◌, ℕ, ◌+◌}
use Rattle.reply.specs.Reply.{given, refused}
use Rattle.mailbox.specs.declared.Post.{Post}
use Rattle.mailbox.specs.declared.Mailbox.{Mailbox}
use Rattle.mailbox.specs.Machine.{post_by}
use Rattle.mailbox_calls.specs.Calls.{accepted}
use Rattle.mailbox_demand3.specs.Calls.{Call, Seen, posted, loaded, turned, unloaded, took, Server}

-- a word, with the caller that got it
pub record Got : Type 0 where
  pub caller : ℕ
  pub word : ℕ

abbrev pub got : (caller word : ℕ) → Got
got caller word = record { caller = caller; word = word }

-- the accepted posts by acceptance, how many commands were turned, and the words taken
pub record Log : Type 0 where
  pub line : List Post
  pub turns : ℕ
  pub taken : List Got

abbrev pub no_log : Log
no_log = record { line = []; turns = 0; taken = [] }

-- the log with one more call in it
abbrev pub noted : Log → Seen → Log
noted g (posted caller command d (given accepted)) = record { line = g.line ++ (post_by caller command d ∷ []); turns = g.turns; taken = g.taken }
noted g (posted caller command d (refused number carried)) = g
noted g (loaded r) = g
noted g (turned (given true)) = record { line = g.line; turns = g.turns + 1; taken = g.taken }
noted g (turned (given false)) = g
noted g (turned (refused number carried)) = g
noted g (unloaded r) = g
noted g (took caller (given word)) = record { line = g.line; turns = g.turns; taken = g.taken ++ (got caller word ∷ []) }
noted g (took caller (refused number carried)) = g

-- ---- a run
pub record Run : Type 0 where
  pub mailbox : Mailbox
  pub log : Log

-- from this mailbox on, with nothing written down yet
abbrev pub from : Mailbox → Run
from m = record { mailbox = m; log = no_log }

-- one call more
abbrev pub stepped : Server → Run → Call → Run
stepped serve r call = record { mailbox = (serve r.mailbox call).mailbox; log = noted r.log (serve r.mailbox call).answer }

-- the calls one after another
unfoldable pub played : Server → Run → (calls : List Call) → Run
played serve r [] = r
played serve r (call ∷ calls) = played serve (stepped serve r call) calls
