-- The mailbox before another firmware: what the functions that run a command promise each other. Assumes nothing: these are definitions.
use Rattle.firmware.specs.declared.Firmware.{Firmware}
use Rattle.mailbox.specs.declared.Mailbox.{Mailbox}

-- the mailbox before this firmware, in all else the same
abbrev pub before : Mailbox → Firmware → Mailbox
before m f = record { register = m.register; count = m.count; line = m.line; places = m.places; firmware = f }
