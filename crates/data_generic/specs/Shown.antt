-- What the code's values stand for.
use Rattle.std.specs.Prelude.{ℕ, List}
use Rattle.std.specs.declared.option.Option.{Option}
use Rattle.std.specs.Option.{option_map}
use Rattle.std.specs.Borrow.{Bor}
use Rattle.data_generic.specs.declared.words.Reference as code
use Rattle.data_generic.specs.declared.words.Reference.TheVariants as c
use Rattle.data_generic.specs.Words.{Reference, Offset, Difference}

abbrev pub shown_halves : Option (Bor (List ℕ) × Bor (List ℕ)) → Option (List ℕ × List ℕ)
shown_halves found = option_map (λ halves. (halves.0.now, halves.1.now)) found

abbrev pub shown : code.Reference → Reference
shown (c.Offset name) = Offset name.now
shown (c.Difference name other) = Difference name.now other.now

abbrev pub shown_reference : Option code.Reference → Option Reference
shown_reference found = option_map shown found
