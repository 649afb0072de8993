-- What code knows of the names of a block where descriptors have names.
use Rattle.std.specs.Prelude.{◌≡◌, map}
use Rattle.asl_tree.specs.View.{trees_of}
use Rattle.term_plans.specs.Plans.{Plans, plans_of}
use Rattle.name_checks.specs.Messages.{message_of}
use Rattle.descriptor_fields.specs.Declaring.{declaring}
use Rattle.descriptor_checks.specs.Fields.{paths_at}
use Rattle.descriptor_checks.specs.Resolved.{broken_fields, checked_terms}
use Rattle.descriptor_checks.specs.Told.{checked_trees, fields_wrong, owners_of}
use Rattle.descriptor_checks.specs.declared.check.Resolved.{Resolved}
use Rattle.descriptor_checks.specs.declared.check.Uses.{Uses}

-- what is told of the fields of descriptors that terms use, and the paths of these descriptors
pub record AreUses (ps : Plans) (uses : Uses) : Type 0 where
  pub wrong : uses.wrong.items ≡ map message_of (fields_wrong (declaring ps))
  pub broken : uses.broken.items ≡ broken_fields ps
  pub owners : paths_at uses.index.paths uses.owners.items ≡ owners_of (declaring ps)

-- the terms with those that declare descriptors, in which fields are constants, and what is known of the fields
pub record Resolves (ps : Plans) (resolved : Resolved) : Type 0 where
  pub terms : plans_of resolved.terms.items ≡ checked_terms ps
  pub trees : trees_of resolved.terms.items ≡ checked_trees ps
  pub uses : AreUses ps resolved.uses
