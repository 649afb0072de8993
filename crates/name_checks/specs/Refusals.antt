-- A stage that gives no value.
use Rattle.std.specs.Prelude.{◌≡◌, List, []}
use Rattle.iasl_messages.specs.declared.message.Message.{Message}
use Rattle.iasl_messages.specs.declared.message.Stage.{Stage}
use Rattle.iasl_messages.specs.declared.message.Stage.TheVariants as stage

-- refused with just these messages, of which there is one at least; or there was no memory
abbrev pub Refuses : Stage → List Message → Type 0
Refuses (stage.Refused messages) errors = (messages ≡ errors) × (errors ≡ [] → ⊥)
Refuses stage.Memory errors = Unit {0}
