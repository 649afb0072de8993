-- Which messages are told on the console, and which are not even counted.
use Rattle.std.specs.Prelude.{ℕ, Bool, ◌&&◌, not, List, decimal}
use Rattle.std.specs.List.{list_any, filter}
use Rattle.std.specs.Str.{bytes_eq}
use Rattle.iasl_messages.specs.declared.message.Message.{Message}
use Rattle.iasl_messages.specs.declared.severity.Severity.{Severity}
use Rattle.iasl_messages.specs.declared.severity.Severity.TheVariants.{Remark, Warning, Error}
use Rattle.iasl_messages.specs.Severity.{severity_of, is_same}
use Rattle.iasl_options.specs.declared.switches.Switches.{Switches}

-- a warning or a remark whose number is one of these, as they are written
abbrev pub is_ignored : List (List ℕ) → ℕ → Bool
is_ignored ignored number = not (is_same Error (severity_of number)) && list_any (λ text. bytes_eq text (decimal number)) ignored

-- the messages that count
abbrev pub counted : List (List ℕ) → List Message → List Message
counted ignored messages = filter (λ message. not (is_ignored ignored message.number)) messages

-- whether messages of this severity are told
abbrev pub is_told : Switches → Severity → Bool
is_told switches Remark = switches.remarks
is_told switches Warning = switches.warnings
is_told switches Error = switches.errors

-- the messages that are told
abbrev pub shown : Switches → List Message → List Message
shown switches messages = filter (λ message. is_told switches (severity_of message.number)) messages
