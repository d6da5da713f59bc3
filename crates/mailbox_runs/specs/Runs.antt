-- Demand 3 at the boundary, stated: a run of calls through lent words is the mailbox's own run of those that had room, so demand 3 holds of the log that is written there. The proof stands in proofs/Runs.antt.
use Rattle.std.specs.Prelude.{◌≡◌, List, ◌∷◌, ◌++◌, ℕ, ◌≤◌, length}
use Rattle.lent.specs.Lent.{words_for}
use Rattle.firmware.specs.Rules.{fresh_firmware}
use Rattle.mailbox.specs.declared.Mailbox.{Mailbox}
use Rattle.mailbox.specs.Machine.{fresh_mailbox}
use Rattle.mailbox_demand3.specs.Calls.{call_of}
use Rattle.mailbox_demand3.specs.Log.{Run, from, played}
use Rattle.mailbox_demand3.specs.Demand3.{Demand3}
use Rattle.mailbox_layout.specs.Layout.{words_of_mailbox, pack_of}
use Rattle.mailbox_words.specs.Calls.{fresh_words}
use Rattle.mailbox_runs.specs.Faithful.{Faithful}
use Rattle.mailbox_runs.specs.Boundary.{CallOn, played_on, from_fresh, behind_of, with_room, server_on}

-- the fresh mailbox's own run, of the calls that had room
abbrev pub own_run : (lent : List ℕ) (calls : List CallOn) → Run
own_run lent calls = played call_of (from fresh_mailbox) (with_room (words_for fresh_words lent) calls)

-- the run on the words and the mailbox's own are one: a call that had no room changed nothing and is not in the log
pub record SameRun (lent : List ℕ) (calls : List CallOn) : Type 0 where
  pub words : (played_on (from_fresh lent) calls).words ≡ pack_of (own_run lent calls).mailbox ++ behind_of lent
  pub log : (played_on (from_fresh lent) calls).log ≡ (own_run lent calls).log
  -- and any further call on the words is the mailbox's own
  pub further : Faithful (own_run lent calls).mailbox

abbrev pub SameRuns : Type 0
SameRuns = (lent : List ℕ) → words_of_mailbox ≤ length lent → (calls : List CallOn) → SameRun lent calls

-- ---- demand 3, of what is seen at the boundary
pub record AtTheBoundary (lent : List ℕ) (calls : List CallOn) : Type 0 where
  pub mailbox : Mailbox
  -- the words are the mailbox's, and those behind them are as they were lent
  pub words : (played_on (from_fresh lent) calls).words ≡ pack_of mailbox ++ behind_of lent
  -- demand 3 holds of it and of the log that was written at the boundary
  pub own : Demand3 call_of fresh_firmware mailbox (played_on (from_fresh lent) calls).log
  -- and so it does with the words themselves as the server, one word or more being lent for the value
  pub served : (value : ℕ) (more : List ℕ) → Demand3 (server_on (behind_of lent) (value ∷ more)) fresh_firmware mailbox (played_on (from_fresh lent) calls).log

-- after `fresh` on any words long enough, and any list of calls with any words lent for their values
abbrev pub Demand3AtTheBoundary : Type 0
Demand3AtTheBoundary = (lent : List ℕ) → words_of_mailbox ≤ length lent → (calls : List CallOn) → AtTheBoundary lent calls
