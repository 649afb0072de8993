-- The block of a source without errors is shaped.
use Rattle.std.proofs.Common.{◌≡◌, ℕ, Bool, true, false, [], ◌++◌, Option, Some, None, refl}
use Rattle.std.specs.Prelude.{if◌then◌else◌}
use Rattle.iasl_messages.specs.declared.place.Place.{Place}
use Rattle.asl_syntax.specs.Written.{Writtens, WrittenGroup, item, none, more}
use Rattle.asl_words.specs.Operators.{block_parameters}
use Rattle.asl_terms.specs.Terms.{inside_of, is_given}
use Rattle.asl_shape.specs.Shapes.{takes}
use Rattle.acpi_values.specs.Revisions.{width_of}
use Rattle.acpi_values.specs.declared.width.Width.TheVariants.{W64}
use Rattle.asl_shape.specs.Around.{outside}
use Rattle.asl_shape.specs.Forms.{revision_in, errors_of, errors_at, errors_inside, block_errors, block_fault, block_args, block_terms, is_block_word, no_block, IsBlockOf, args_of}
use Rattle.asl_shape.specs.Forms as forms
use Rattle.program_shapes.proofs.Fits.{FormedTerms}
use Rattle.program_shapes.proofs.Plans.{PlansAs}
use Rattle.program_shapes.proofs.Parts.{none_in}
use Rattle.program_shapes.specs.Kept.{IsKeptSource}
use Rattle.program_shapes.proofs.Shapes.{in_braces}
use Rattle.program_shapes.proofs.Headers.{HaveForms, HaveRoom, room_of, block_asked, arguments_form}

-- ---- the block

no_inside : (place : Place) (args body : WrittenGroup) → block_errors place args body ≡ [] → (block_terms (block_args place args).made body).faults ≡ []
no_inside place args body e = by (block_fault (takes block_parameters (inside_of args)) (is_given body)) e
  where
    by : (o : Option ℕ) → errors_inside o place ((block_args place args).faults ++ (block_terms (block_args place args).made body).faults) ≡ [] → (block_terms (block_args place args).made body).faults ≡ []
    by (Some number) e = absurd cc
    by None e = (none_in (block_args place args).faults (block_terms (block_args place args).made body).faults e).1

pub terms_as : (ws : Writtens) → errors_of ws ≡ [] → IsKeptSource ws → PlansAs FormedTerms (forms.terms_of ws)
terms_as none e k = absurd cc
terms_as (more (item place word args body) none) e k = by (is_block_word word) e
  where
    by : (b : Bool) → (if b then block_errors place args body else no_block place) ≡ [] → PlansAs FormedTerms (block_terms (block_args place args).made body).made
    by true e = in_braces (outside (width_of (revision_in (block_args place args).made))) body k.1 (no_inside place args body e)
    by false e = absurd cc
terms_as (more (item place word args body) (more w ws)) e k = by (is_block_word word) e
  where
    by : (b : Bool) → (if b then forms.errors_before (block_errors place args body) (more w ws) else no_block place) ≡ [] → PlansAs FormedTerms (forms.terms_of (more (item place word args body) (more w ws)))
    by true e = absurd cc
    by false e = absurd cc
terms_as (more _ ws) e k = absurd cc

taken : (place : Place) (args body : WrittenGroup) → block_errors place args body ≡ [] → (takes block_parameters (inside_of args) ≡ true) × ((block_args place args).faults ≡ [])
taken place args body e = by (takes block_parameters (inside_of args)) (is_given body) refl e
  where
    by : (a b : Bool) → takes block_parameters (inside_of args) ≡ a → errors_inside (block_fault a b) place ((block_args place args).faults ++ (block_terms (block_args place args).made body).faults) ≡ []
        → (takes block_parameters (inside_of args) ≡ true) × ((block_args place args).faults ≡ [])
    by true true t e = (t, (none_in (block_args place args).faults (block_terms (block_args place args).made body).faults e).0)
    by true false t e = absurd cc
    by false b t e = absurd cc

-- the texts among the arguments of a block without errors have their forms
pub forms_in : (ws : Writtens) → errors_of ws ≡ [] → IsKeptSource ws → HaveForms block_parameters (args_of ws)
forms_in none e k = absurd cc
forms_in (more (item place word args body) none) e k = by (is_block_word word) e
  where
    by : (b : Bool) → (if b then block_errors place args body else no_block place) ≡ [] → HaveForms block_parameters (block_args place args).made
    by true e = let t = taken place args body e in arguments_form block_parameters place (outside W64) args k.0 block_asked t.0 t.1
    by false e = absurd cc
forms_in (more (item place word args body) (more w ws)) e k = by (is_block_word word) e
  where
    by : (b : Bool) → (if b then forms.errors_before (block_errors place args body) (more w ws) else no_block place) ≡ [] → HaveForms block_parameters (args_of (more (item place word args body) (more w ws)))
    by true e = absurd cc
    by false e = absurd cc
forms_in (more _ ws) e k = absurd cc

-- the texts of its header have room in it
pub room_in : (ws : Writtens) → errors_of ws ≡ [] → IsKeptSource ws → HaveRoom (args_of ws)
room_in ws e k = room_of (args_of ws) (forms_in ws e k)
