-- How grave a message is, by its number.
use Rattle.std.specs.Prelude.{ℕ, ◌/◌, Bool, true, false, ◌==◌, if◌then◌else◌, List, count_by, codes}
use Rattle.iasl_messages.specs.declared.message.Message.{Message}
use Rattle.iasl_messages.specs.declared.severity.Severity.{Severity}
use Rattle.iasl_messages.specs.declared.severity.Severity.TheVariants.{Remark, Warning, Error}

-- a number of the 2000s is a remark, one of the 3000s a warning, any other an error
abbrev pub severity_of : ℕ → Severity
severity_of number = if number / 1000 == 2 then Remark else (if number / 1000 == 3 then Warning else Error)

-- the word of a message
abbrev pub word_of : Severity → List ℕ
word_of Remark = codes "remark"
word_of Warning = codes "warning"
word_of Error = codes "error"

abbrev pub is_same : Severity → Severity → Bool
is_same Remark Remark = true
is_same Warning Warning = true
is_same Error Error = true
is_same _ _ = false

-- how many of the messages are of a severity
abbrev pub count_of : Severity → List Message → ℕ
count_of severity messages = count_by (λ m. is_same severity (severity_of m.number)) messages
