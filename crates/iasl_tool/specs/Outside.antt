-- What a call puts and tells.
use Rattle.std.specs.Prelude.{ℕ, List}
use Rattle.iasl_ports.specs.Gained.{Named, Gains}
use Rattle.iasl_runs.specs.Ends.{World}

-- the outputs gained these files, and nothing else
abbrev pub Puts : World → World → List Named → Type 0
Puts before after files = Gains before.outputs.written after.outputs.written files

-- the console gained this text, and nothing else
abbrev pub Tells : World → World → List ℕ → Type 0
Tells before after text = Gains before.console.told after.console.told text
