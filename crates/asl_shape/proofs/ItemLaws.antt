-- Items, argument by argument.
use Rattle.std.proofs.Common.{◌≡◌, nat_le, length, arith, List, [], ◌∷◌, refl, ap, true, false, not, ◌&&◌, ◌||◌}
use Rattle.asl_syntax.specs.declared.raw.Raw.{Raw}
use Rattle.asl_tree.specs.declared.term.Op.{Op}
use Rattle.asl_words.specs.declared.operator.Known.{Known}
use Rattle.asl_words.specs.declared.operator.Parameter.{Parameter}
use Rattle.asl_words.specs.declared.operator.TextMacro.{TextMacro}
use Rattle.word_meanings.specs.declared.meaning.Meaning.TheVariants as is
use Rattle.asl_syntax.specs.Written.{written, writtens}
use Rattle.asl_words.specs.declared.operator.FieldWord.{FieldWord}
use Rattle.asl_words.specs.Operators.{parameters_of, element_parameters, macro_parameters}
use Rattle.asl_words.specs.Resources.{descriptor_parameters}
use Rattle.resource_layout.specs.declared.descriptor.Descriptor.{Descriptor}
use Rattle.asl_shape.specs.Shapes.{is_empty, none_empty, is_none}
use Rattle.word_meanings.specs.Meanings.{may_end}
use Rattle.asl_shape.specs.AtRaw.{takes_at, none_empty_at, has_arguments_at, is_call_at}
use Rattle.asl_terms.proofs.Bracketed.{counted}

pub takes_no : (raws : List Raw) → takes_at [] raws ≡ is_none (writtens raws)
unfolding takes_at writtens
takes_no [] = refl
takes_no (r ∷ rs) = refl

pub takes_end : (q : Parameter) (qs : List Parameter) → takes_at (q ∷ qs) [] ≡ may_end (q ∷ qs)
unfolding takes_at writtens
takes_end q qs = refl

pub takes_more : (q : Parameter) (qs : List Parameter) (r : Raw) (rs : List Raw) → takes_at (q ∷ qs) (r ∷ rs) ≡ ((q.omittable || not (is_empty (written r))) && takes_at qs rs)
unfolding takes_at writtens
takes_more q qs r rs = refl

pub is_none_short : (raws : List Raw) → length raws ≡ 0 → is_none (writtens raws) ≡ true
unfolding writtens
is_none_short [] e = refl
is_none_short (r ∷ rs) e = absurd (omega (arith, e))

pub is_none_long : (raws : List Raw) → (length raws ≡ 0 → ⊥) → is_none (writtens raws) ≡ false
unfolding writtens
is_none_long [] h = absurd (h refl)
is_none_long (r ∷ rs) h = refl

pub ruleset takes_rules = (takes_no, takes_end, takes_more, is_none_short, is_none_long)

pub none_empty_end : none_empty_at [] ≡ true
unfolding none_empty_at writtens
none_empty_end = refl

pub none_empty_more : (r : Raw) (rs : List Raw) → none_empty_at (r ∷ rs) ≡ (not (is_empty (written r)) && none_empty_at rs)
unfolding none_empty_at writtens
none_empty_more r rs = refl

pub ruleset empty_rules = (none_empty_end, none_empty_more)

pub has_operator : (o : Op) (raws : List Raw) → has_arguments_at (is.Operator o) raws ≡ takes_at (parameters_of o) raws
unfolding has_arguments_at takes_at
has_operator o raws = refl

pub has_known : (k : Known) (raws : List Raw) → has_arguments_at (is.Known k) raws ≡ is_none (writtens raws)
unfolding has_arguments_at
has_known k raws = refl

pub call_is : (raws : List Raw) → is_call_at raws ≡ (nat_le (length raws) 7 && none_empty_at raws)
unfolding is_call_at none_empty_at
call_is raws = ap (λ n. nat_le n 7 && none_empty (writtens raws)) (counted raws)

pub ruleset call_rules = (call_is)

pub has_name : (raws : List Raw) → has_arguments_at is.Name raws ≡ is_call_at raws
unfolding has_arguments_at is_call_at
has_name raws = refl

pub has_path : (raws : List Raw) → has_arguments_at is.Path raws ≡ is_call_at raws
unfolding has_arguments_at is_call_at
has_path raws = refl

pub has_unknown : (raws : List Raw) → has_arguments_at is.Unknown raws ≡ true
unfolding has_arguments_at
has_unknown raws = refl

pub has_element : (e : FieldWord) (raws : List Raw) → has_arguments_at (is.Element e) raws ≡ takes_at (element_parameters e) raws
unfolding has_arguments_at takes_at
has_element e raws = refl

pub has_macro : (m : TextMacro) (raws : List Raw) → has_arguments_at (is.Macro m) raws ≡ takes_at (macro_parameters m) raws
unfolding has_arguments_at takes_at
has_macro m raws = refl

pub has_template : (raws : List Raw) → has_arguments_at is.Template raws ≡ is_none (writtens raws)
unfolding has_arguments_at
has_template raws = refl

pub has_descriptor : (d : Descriptor) (raws : List Raw) → has_arguments_at (is.Descriptor d) raws ≡ takes_at (descriptor_parameters d) raws
unfolding has_arguments_at takes_at
has_descriptor d raws = refl

pub ruleset has_rules = (has_operator, has_element, has_macro, has_template, has_descriptor, has_known, has_name, has_path, has_unknown, is_none_short, is_none_long)
