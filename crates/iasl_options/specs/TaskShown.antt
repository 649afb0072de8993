-- The code's tasks as the definition's.
use Rattle.std.specs.Prelude.{◌≡◌, ℕ, ⊤, Result, Ok, Err}
use Rattle.iasl_options.specs.declared.request.WordsStop.{WordsStop}
use Rattle.iasl_options.specs.declared.request.WordsStop.TheVariants as stop
use Rattle.iasl_options.specs.declared.task.Task as code
use Rattle.iasl_options.specs.declared.task.Task.TheVariants as c
use Rattle.iasl_options.specs.Shown.{asked_of, AreTexts}
use Rattle.iasl_options.specs.Task.{Task, Compiles, Generates, Templates}

abbrev pub shown_task : code.Task → Task
shown_task (c.Compile options) = Compiles (asked_of options)
shown_task (c.Generate count) = Generates count
shown_task (c.Template table) = Templates table

-- what a call answers of its task, unless memory runs out
abbrev pub TaskAnswers : Result code.Task WordsStop → Result Task ℕ → Type 0
TaskAnswers (Ok task) asked = asked ≡ Ok (shown_task task)
TaskAnswers (Err (stop.Bad word)) asked = asked ≡ Err word
TaskAnswers (Err stop.Memory) asked = ⊤

-- the texts of a compilation's options are UTF-8
abbrev pub HasTexts : code.Task → Type 0
HasTexts (c.Compile options) = AreTexts options
HasTexts (c.Generate count) = ⊤
HasTexts (c.Template table) = ⊤
