-- The terms of a source, and their trees with their nodes numbered, stand in the files in which its parts stand.
use Rattle.std.proofs.Common.{ℕ}
use Rattle.asl_syntax.specs.Written.{Writtens}
use Rattle.asl_syntax.specs.Within as source
use Rattle.asl_shape.specs.Forms.{terms_of}
use Rattle.asl_numbers.specs.Numbers.{numbered_all}
use Rattle.named_sessions.specs.Places.{AreWithin}
use Rattle.descriptor_checks.specs.Resolved.{checked_terms, resolved_terms}
use Rattle.descriptor_shapes.specs.Places.{PlansWithin}
use Rattle.descriptor_shapes.proofs.Blocks.{checked_within, resolved_within, numbered_within}
use Rattle.program_shapes.proofs.Places.{terms_within}

-- its terms with the fields of its descriptors as constants
pub plans_within : (files : ℕ) (ws : Writtens) → source.AreWithin files ws → PlansWithin files (resolved_terms (terms_of ws))
plans_within files ws h = resolved_within files (terms_of ws) (terms_within files ws h)

-- those with the terms that declare descriptors, and their trees
pub checked_plans_within : (files : ℕ) (ws : Writtens) → source.AreWithin files ws → PlansWithin files (checked_terms (terms_of ws))
checked_plans_within files ws h = checked_within files (terms_of ws) (terms_within files ws h)

pub program_within : (files : ℕ) (ws : Writtens) → source.AreWithin files ws → AreWithin files (numbered_all 0 (checked_terms (terms_of ws)))
program_within files ws h = numbered_within files 0 (checked_terms (terms_of ws)) (checked_plans_within files ws h)
