-- A mailbox whose numbers have the widths of their types and whose arrays have their lengths: what every mailbox of the code is. Assumes nothing: these are definitions.
use Rattle.std.specs.Prelude.{◌≡◌, ◌<◌, length, ℕ, Option, Some, None}
use Rattle.reply.specs.Scan.{All}
use Rattle.firmware.specs.declared.Descriptor.{Descriptor}
use Rattle.firmware.specs.declared.Interrupt.{Interrupt}
use Rattle.firmware.specs.declared.Firmware.{Firmware}
use Rattle.mailbox.specs.declared.Phase.{Phase}
use Rattle.mailbox.specs.declared.Phase.TheVariants.{Idle, Command, Response}
use Rattle.mailbox.specs.declared.PlaceState.{PlaceState}
use Rattle.mailbox.specs.declared.PlaceState.TheVariants.{Free, Waiting, Ready}
use Rattle.mailbox.specs.declared.Place.{Place}
use Rattle.mailbox.specs.declared.Post.{Post}
use Rattle.mailbox.specs.declared.Mailbox.{Mailbox}

abbrev pub TypedPart : (p : Option ℕ) → Type 0
TypedPart None = Unit {0}
TypedPart (Some value) = value < 0x1_0000

abbrev pub TypedDescriptor : (d : Option Descriptor) → Type 0
TypedDescriptor None = Unit {0}
TypedDescriptor (Some d) = (d.part1 < 0x1_0000) × (d.part2 < 0x1_0000) × (d.part3 < 0x1_0000)

abbrev pub TypedInterrupt : (i : Interrupt) → Type 0
TypedInterrupt i = TypedDescriptor i.descriptor

pub record TypedFirmware (f : Firmware) : Type 0 where
  pub part1 : TypedPart f.part1
  pub part2 : TypedPart f.part2
  pub part3 : TypedPart f.part3
  pub interrupts_long : length f.interrupts ≡ 64
  pub interrupts : All TypedInterrupt f.interrupts

abbrev pub TypedPost : (p : Post) → Type 0
TypedPost p = (p.caller < 0x1_0000_0000) × (p.command < 0x1_0000) × (p.«data» < 0x1_0000)

abbrev pub TypedState : (state : PlaceState) → Type 0
TypedState Free = Unit {0}
TypedState Waiting = Unit {0}
TypedState (Ready word) = word < 0x1_0000_0000

abbrev pub TypedPlace : (p : Place) → Type 0
TypedPlace p = TypedState p.state

abbrev pub TypedPhase : (register : Phase) → Type 0
TypedPhase Idle = Unit {0}
TypedPhase (Command caller word) = (caller < 0x1_0000_0000) × (word < 0x1_0000_0000)
TypedPhase (Response caller word) = (caller < 0x1_0000_0000) × (word < 0x1_0000_0000)

pub record Typed (m : Mailbox) : Type 0 where
  pub register : TypedPhase m.register
  pub line_long : length m.line ≡ 8
  pub line : All TypedPost m.line
  pub places_long : length m.places ≡ 8
  pub places : All TypedPlace m.places
  pub firmware : TypedFirmware m.firmware
