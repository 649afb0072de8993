-- Terms that are forms, and others.
use Rattle.std.proofs.Common.{◌≡◌, suc, Bool, true, false, List, [], ◌∷◌, length, Vec, Global, sym, ap, ◌∙◌, arith}
use Rattle.std.specs.Prelude.{nat_eq}
use Rattle.std.proofs.lemmas.Bool.Decides.{nat_tests}
use Rattle.asl_tree.specs.declared.term.Op.{Op}
use Rattle.asl_tree.specs.declared.term.Node.{Node}
use Rattle.asl_tree.specs.declared.term.Term.{Term}
use Rattle.asl_tree.specs.declared.term.Term as D
use Rattle.asl_tree.specs.declared.term.Term.TheVariants as V
use Rattle.asl_tree.specs.View.{trees_of}
use Rattle.asl_prints.specs.Nodes.{none_in}

abbrev pub is_form : Term → Bool
is_form (D.Form' op shape args shape' body) = true
is_form t = false

pub no_form : (t : Term) → ((o : Op) (v w : Vec Node Global) → t ≡ D.Form o v w → ⊥) → is_form t ≡ false
no_form t not_form = by_layer (D.out-Term t) (sym (D.roll-out-Term t))
  where
    by_layer : (f : D.Term-F Term Node) → t ≡ D.roll-Term f → is_form t ≡ false
    by_layer (D.Term-F.Form o v w) e = absurd (not_form o v w (e ∙ V.rolls-Form o v w))
    by_layer (D.Term-F.Call p v) e = ap is_form (e ∙ V.rolls-Call p v)
    by_layer (D.Term-F.Name p) e = ap is_form (e ∙ V.rolls-Name p)
    by_layer (D.Term-F.Integer n) e = ap is_form (e ∙ V.rolls-Integer n)
    by_layer (D.Term-F.Text text) e = ap is_form (e ∙ V.rolls-Text text)
    by_layer (D.Term-F.Fill bytes named) e = ap is_form (e ∙ V.rolls-Fill bytes named)
    by_layer (D.Term-F.Word word) e = ap is_form (e ∙ V.rolls-Word word)
    by_layer (D.Term-F.Local n) e = ap is_form (e ∙ V.rolls-Local n)
    by_layer (D.Term-F.Arg n) e = ap is_form (e ∙ V.rolls-Arg n)
    by_layer (D.Term-F.Debug) e = ap is_form (e ∙ V.rolls-Debug)
    by_layer (D.Term-F.Omitted) e = ap is_form (e ∙ V.rolls-Omitted)
    by_layer (D.Term-F.Unit segment bits) e = ap is_form (e ∙ V.rolls-Unit segment bits)
    by_layer (D.Term-F.Skip n) e = ap is_form (e ∙ V.rolls-Skip n)
    by_layer (D.Term-F.Offset n) e = ap is_form (e ∙ V.rolls-Offset n)
    by_layer (D.Term-F.Access access attribute count) e = ap is_form (e ∙ V.rolls-Access access attribute count)

-- whether there are no nodes
pub none_long : (nodes : List Node) → none_in (trees_of nodes) ≡ nat_eq (length nodes) 0
unfolding trees_of
none_long [] = sym (let e : nat_eq 0 0 ≡ true = grind (arith, nat_tests) in e)
none_long (node ∷ nodes) = sym (let e : nat_eq (suc (length nodes)) 0 ≡ false = grind (arith, nat_tests) in e)
