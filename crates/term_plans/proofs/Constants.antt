-- The value of a constant argument, read at its plan.
use Rattle.std.proofs.Common.{◌≡◌, ℕ, suc, ◌∷◌, refl, ap, ◌∙◌, Result}
use Rattle.acpi_values.specs.declared.width.Width.{Width}
use Rattle.asl_tree.specs.declared.constant.NoConstant.{NoConstant}
use Rattle.asl_tree.specs.declared.term.Term.{Term}
use Rattle.asl_tree.specs.declared.term.Term as D
use Rattle.asl_tree.specs.Constants.{constant_term, constant_form, row_arguments, row_length, argument_of}
use Rattle.term_plans.specs.Plans.{plan_of, row_plans, constant_of, arguments_as, argument_as, how_many}

length_is : (m : _) (row : D.Row_of-Node m) → row_length row ≡ how_many (row_plans row)
unfolding plan_of
length_is m D.end_of-Node = refl
length_is m (D.more_of-Node id place term rest) = ap suc (length_is _ rest)

argument_is : (t : Term) (r : Result ℕ NoConstant) → argument_of t r ≡ argument_as (plan_of t) r
unfolding plan_of
argument_is D.Omitted r = refl
argument_is _ r = refl

mutual
  unfolding plan_of

  pub constant_is : (width : Width) (t : Term) → constant_term width t ≡ constant_of width (plan_of t)
  constant_is width (D.Form' op shape args shape' body) =
      ap (λ args. constant_form op width args (row_length body)) (arguments_are width _ args) ∙ ap (constant_form op width (arguments_as width (row_plans args))) (length_is _ body)
  constant_is width _ = refl

  arguments_are : (width : Width) (m : _) (row : D.Row_of-Node m) → row_arguments width row ≡ arguments_as width (row_plans row)
  arguments_are width m D.end_of-Node = refl
  arguments_are width m (D.more_of-Node id place term rest) =
      ap (λ r. argument_of term r ∷ row_arguments width rest) (constant_is width term)
      ∙ ap (λ a. a ∷ row_arguments width rest) (argument_is term (constant_of width (plan_of term)))
      ∙ ap (λ others. argument_as (plan_of term) (constant_of width (plan_of term)) ∷ others) (arguments_are width _ rest)
