-- The Default among some nodes, from the last on.
use Rattle.std.proofs.Common.{◌≡◌, Bool, true, false, List, [], ◌∷◌, ◌++◌, reverse, Option, Some, None, refl, sym, ap, ◌∙◌, append_assoc}
use Rattle.std.specs.Prelude.{not, if◌then◌else◌, filter}
use Rattle.std.proofs.lemmas.List.{reverse-append, append-nil}
use Rattle.std.proofs.lemmas.List.Elements.{filter-append}
use Rattle.asl_tree.specs.declared.term.Node.{Node}
use Rattle.switch_loops.specs.Kinds.{default_node}
use Rattle.switch_loops.specs.Links.{first_default}

-- the first Default of some nodes, or else one that was found behind them
abbrev pub earlier : List Node → Option Node → Option Node
earlier [] found = found
earlier (node ∷ nodes) found = if default_node node then Some node else earlier nodes found

earlier_none : (nodes : List Node) → earlier nodes None ≡ first_default nodes
earlier_none [] = refl
earlier_none (node ∷ nodes) = ap (λ o. if default_node node then Some node else o) (earlier_none nodes)

earlier_last : (nodes : List Node) (node : Node) (found : Option Node) → earlier (nodes ++ node ∷ []) found ≡ earlier nodes (if default_node node then Some node else found)
earlier_last [] node found = refl
earlier_last (n ∷ nodes) node found = ap (λ o. if default_node n then Some n else o) (earlier_last nodes node found)

abbrev pub is_case : Node → Bool
is_case node = not (default_node node)

pub split_none : (nodes cases : List Node) (found : Option Node) → cases ≡ [] → found ≡ None → (filter (λ node. not (default_node node)) nodes ++ reverse cases ≡ filter (λ node. not (default_node node)) nodes) × (earlier nodes found ≡ first_default nodes)
split_none nodes cases found e f =
    (ap (λ ns. filter (λ node. not (default_node node)) nodes ++ reverse ns) e ∙ append-nil (filter (λ node. not (default_node node)) nodes), ap (earlier nodes) f ∙ earlier_none nodes)

one_kept : (node : Node) (c : Bool) → default_node node ≡ c → filter (λ node. not (default_node node)) (node ∷ []) ≡ (if c then [] else node ∷ [])
one_kept node true e = ap (λ c. if not c then node ∷ [] else []) e
one_kept node false e = ap (λ c. if not c then node ∷ [] else []) e

pub split_default : (left more cases whole : List Node) (node : Node) (found first : Option Node) → left ≡ more ++ node ∷ [] → default_node node ≡ true
    → filter (λ node. not (default_node node)) left ++ reverse cases ≡ whole → earlier left found ≡ first
    → (filter (λ node. not (default_node node)) more ++ reverse cases ≡ whole) × (earlier more (Some node) ≡ first)
split_default left more cases whole node found first e k h g = (
  ap (λ ns. ns ++ reverse cases) (sym (append-nil (filter (λ node. not (default_node node)) more)) ∙ ap (λ ns. filter (λ node. not (default_node node)) more ++ ns) (sym (one_kept node true k)) ∙ sym (filter-append (λ node. not (default_node node)) more (node ∷ [])) ∙ ap (filter (λ node. not (default_node node))) (sym e)) ∙ h,
  ap (λ c. earlier more (if c then Some node else found)) (sym k) ∙ sym (earlier_last more node found) ∙ ap (λ ns. earlier ns found) (sym e) ∙ g,
)

pub split_case : (left more cases new whole : List Node) (node : Node) (found first : Option Node) → left ≡ more ++ node ∷ [] → default_node node ≡ false → new ≡ cases ++ node ∷ []
    → filter (λ node. not (default_node node)) left ++ reverse cases ≡ whole → earlier left found ≡ first
    → (filter (λ node. not (default_node node)) more ++ reverse new ≡ whole) × (earlier more found ≡ first)
split_case left more cases new whole node found first e k n h g = (
  ap (λ ns. filter (λ node. not (default_node node)) more ++ reverse ns) n ∙ ap (λ ns. filter (λ node. not (default_node node)) more ++ ns) (reverse-append cases (node ∷ []))
      ∙ sym (append_assoc (filter (λ node. not (default_node node)) more) (node ∷ []) (reverse cases))
      ∙ ap (λ ns. ns ++ reverse cases) (ap (λ ns. filter (λ node. not (default_node node)) more ++ ns) (sym (one_kept node false k)) ∙ sym (filter-append (λ node. not (default_node node)) more (node ∷ [])) ∙ ap (filter (λ node. not (default_node node))) (sym e)) ∙ h,
  ap (λ c. earlier more (if c then Some node else found)) (sym k) ∙ sym (earlier_last more node found) ∙ ap (λ ns. earlier ns found) (sym e) ∙ g,
)
