-- The trees of plans are the same whatever the numbers of their nodes are.
use Rattle.std.proofs.Common.{◌≡◌, ℕ, suc, ◌+◌, refl, sym, ap, ◌∙◌, subst}
use Rattle.asl_tree.specs.Tree.{At, Tree, Call, Misshapen, tree}
use Rattle.asl_tree.specs.View.{form}
use Rattle.term_plans.specs.Plans.{Plan, a_call, a_form, Plans, no_plans, plan}
use Rattle.asl_numbers.specs.Numbers.{inside, nodes, numbered, numbered_all}
use Rattle.unused_names.specs.Bare.{nowhere, bare, bare_all}
use Rattle.unused_names.proofs.BareForms.{bare_form}
use Rattle.stripped_names.specs.Whole.{IsShaped}

mutual
  unfolding numbered numbered_all

  pub renumbered : (p : Plan) (here there : At) (next more : ℕ) → bare (numbered here next p) ≡ bare (numbered there more p)
  renumbered (a_call name args) here there next more = ap (Call nowhere name) (all_renumbered args next more)
  renumbered (a_form op args body) here there next more =
      bare_form here op (numbered_all next args) (numbered_all (next + nodes args) body)
      ∙ ap (λ ts. form nowhere op ts (bare_all (numbered_all (next + nodes args) body))) (all_renumbered args next more)
      ∙ ap (form nowhere op (bare_all (numbered_all more args))) (all_renumbered body (next + nodes args) (more + nodes args))
      ∙ sym (bare_form there op (numbered_all more args) (numbered_all (more + nodes args) body))
  renumbered _ here there next more = refl

  pub all_renumbered : (ps : Plans) (next more : ℕ) → bare_all (numbered_all next ps) ≡ bare_all (numbered_all more ps)
  all_renumbered no_plans next more = refl
  all_renumbered (plan place p ps) next more =
      ap (λ t. tree t (bare_all (numbered_all (suc (next + inside p)) ps))) (renumbered p (record { id = next; place = place }) (record { id = more; place = place }) (suc next) (suc more))
      ∙ ap (tree (bare (numbered (record { id = more; place = place }) (suc more) p))) (all_renumbered ps (suc (next + inside p)) (suc (more + inside p)))

shaped_bare : (t : Tree) → IsShaped t → IsShaped (bare t)
shaped_bare Misshapen h = h
shaped_bare _ h = tt

bare_shaped : (t : Tree) → IsShaped (bare t) → IsShaped t
bare_shaped Misshapen h = h
bare_shaped _ h = tt

-- one that is not misshapen is not so anywhere
pub shaped_at : (p : Plan) (here there : At) (next more : ℕ) → IsShaped (numbered here next p) → IsShaped (numbered there more p)
shaped_at p here there next more h = bare_shaped (numbered there more p) (subst IsShaped (renumbered p here there next more) (shaped_bare (numbered here next p) h))
