-- What stands in brackets, item by item.
use Rattle.std.proofs.Common.{◌≡◌, ℕ, suc, ◌+◌, ◌<◌, length, get_or, drop, drop-cons, add-one, List, [], ◌∷◌, refl, ap, ◌∙◌, sym, Option}
use Rattle.std.proofs.Common.{Some, None}
use Rattle.asl_syntax.specs.declared.raw.Raw.{Raw}
use Rattle.asl_syntax.specs.Written.{writtens, written_in}
use Rattle.asl_terms.specs.Terms.{is_given, count, inside_of}
use Rattle.asl_terms.specs.AtRaw.{is_some, inside_at}

pub given_some : (raws : Option (List Raw)) → is_given (written_in raws) ≡ is_some raws
given_some None = refl
given_some (Some raws) = refl

-- a list from one of its items on
pub from_item : (raws : List Raw) (i : ℕ) (d : Raw) → i < length raws → drop i raws ≡ get_or raws i d ∷ drop (i + 1) raws
from_item raws i d lt = drop-cons raws i d lt ∙ ap (λ k. get_or raws i d ∷ drop k raws) (sym (add-one i))

pub counted : (raws : List Raw) → count (writtens raws) ≡ length raws
unfolding writtens
counted [] = refl
counted (r ∷ rs) = ap suc (counted rs)

pub inside_none : inside_at None ≡ []
inside_none = refl

pub ruleset inside_rules = (inside_none)

pub inside_written : (raws : Option (List Raw)) → inside_of (written_in raws) ≡ writtens (inside_at raws)
unfolding writtens
inside_written None = refl
inside_written (Some raws) = refl
