-- What a macro stands for fits where an expression does.
use Rattle.std.proofs.Common.{◌≡◌, ℕ, Bool, true, false, List, [], ◌∷◌, ◌++◌, Option, Some, None, refl}
use Rattle.std.specs.Prelude.{if◌then◌else◌}
use Rattle.iasl_messages.specs.declared.place.Place.{Place}
use Rattle.asl_tree.specs.declared.term.Op.{Op}
use Rattle.asl_tree.specs.declared.term.NamedDescriptor.{NamedDescriptor}
use Rattle.asl_tree.specs.declared.term.Word.{Word}
use Rattle.asl_tree.specs.declared.term.Special.TheVariants as Special
use Rattle.resource_layout.specs.declared.descriptor.Descriptor.{Descriptor}
use Rattle.asl_words.specs.declared.operator.TextMacro.{TextMacro}
use Rattle.asl_words.specs.declared.operator.Slot.TheVariants as slot
use Rattle.asl_words.specs.Operators.{macro_parameters}
use Rattle.asl_words.specs.Texts.{is_all_text}
use Rattle.resource_macros.specs.Identifiers.{eisaid_of, uuid_of, utf16_of}
use Rattle.term_plans.specs.Plans.{a_fill, omitted, Plans, no_plans, plan, plan_at}
use Rattle.asl_shape.specs.Descriptors.{described, fills_of, names_from}
use Rattle.asl_terms.specs.Terms.{fine, refused, macro_text, eisa_shape, uuid_shape, buffer_plan}
use Rattle.asl_shape.specs.Shapes.{template_plan}
use Rattle.asl_numbers.specs.Numbers.{numbered}
use Rattle.program_shapes.proofs.Fits.{Fits, IsFill}
use Rattle.program_shapes.proofs.Plans.{PlanAs, PlansFit, word_as, form_as}

-- a Buffer of bytes
pub buffer_fit : (at : Place) (bytes : List ℕ) (named : List NamedDescriptor) → PlanAs (Fits slot.Expression) (buffer_plan at bytes named)
unfolding numbered
buffer_fit at bytes named = form_as (Fits slot.Expression) (Op.Special Special.Buffer) (plan at omitted no_plans) (plan at (a_fill bytes named) no_plans) (λ here m n. (refl, (refl, tt)))

pub macro_fit : (m : TextMacro) (at : Place) (text : List ℕ) → (macro_text m at text).faults ≡ [] → PlanAs (Fits slot.Expression) (macro_text m at text).made
macro_fit TextMacro.EisaId at text e = by (eisaid_of text) e
  where
    by : (o : Option ℕ) → (eisa_shape at o).faults ≡ [] → PlanAs (Fits slot.Expression) (eisa_shape at o).made
    by None e = absurd cc
    by (Some n) e = word_as (Fits slot.Expression) (Word.Identifier n) (refl, tt)
macro_fit TextMacro.ToUuid at text e = by (uuid_of text) e
  where
    by : (o : Option (List ℕ)) → (uuid_shape at o).faults ≡ [] → PlanAs (Fits slot.Expression) (uuid_shape at o).made
    by None e = absurd cc
    by (Some bytes) e = buffer_fit at bytes []
macro_fit TextMacro.Unicode at text e = by (is_all_text text) e
  where
    by : (b : Bool) → (if b then fine (buffer_plan at (utf16_of text) []) else refused 6024 at).faults ≡ [] → PlanAs (Fits slot.Expression) (if b then fine (buffer_plan at (utf16_of text) []) else refused 6024 at).made
    by true e = buffer_fit at (utf16_of text) []
    by false e = absurd cc

-- a template is a Buffer, and a descriptor in it its bytes
pub template_fit : (at : Place) (body : Plans) → PlanAs (Fits slot.Expression) (template_plan at body)
template_fit at body = buffer_fit at (fills_of body ++ 0x79 ∷ 0 ∷ []) (names_from 0 body)

pub descriptor_fit : (d : Descriptor) (args body : Plans) → PlanAs IsFill (described d args body)
unfolding numbered
descriptor_fit d args body = λ at next. tt

-- a macro stands as its one argument
pub macro_made : (m : TextMacro) (ps : Plans) → PlansFit (macro_parameters m) ps → PlanAs (Fits slot.Expression) (plan_at ps 0)
unfolding macro_parameters
macro_made m no_plans h = absurd h
macro_made m (plan at p rest) h = h.0
