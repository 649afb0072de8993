-- The numbers of nodes one after another, and the next ones.
use Rattle.std.proofs.Common.{◌≡◌, ℕ, suc, ◌+◌, ◌<◌, List, [], ◌∷◌, ◌++◌, append_assoc, append-nil, length, take, get_or, Vec, Global, Option, Some, None, refl, sym, ap, ◌∙◌, arith}
use Rattle.asl_tree.specs.declared.path.Path.{Path}
use Rattle.asl_tree.specs.declared.term.Op.{Op}
use Rattle.asl_tree.specs.declared.term.Node.{Node}
use Rattle.asl_tree.specs.declared.term.Term as D
use Rattle.asl_prints.specs.Numbers.{numbers_in, row_numbers, numbers_of, number_behind, kept, numbered, next_behind}
use Rattle.asl_prints.proofs.Nodes.{args_row, body_row, take_next}

pub rows : (m : _) (row : D.Row_of-Node m) → row_numbers row ≡ numbers_of (D.items-the_row-Node m row)
unfolding numbers_in numbers_of
rows m D.end_of-Node = refl
rows m (D.more_of-Node id place term rest) = ap (λ ns. id ∷ (numbers_in term ++ ns)) (rows _ rest)

pub numbers_form : (op : Op) (args body : Vec Node Global) → numbers_in (D.Form op args body) ≡ numbers_of args.items ++ numbers_of body.items
unfolding numbers_in
numbers_form op args body =
    let a = args_row (D.Form op args body) in
    let b = body_row (D.Form op args body) in
    ap (λ ns. ns ++ row_numbers b.1) (rows a.0 a.1 ∙ ap numbers_of (D.items_hidden-the_row-Node-0 args))
    ∙ ap (λ ns. numbers_of args.items ++ ns) (rows b.0 b.1 ∙ ap numbers_of (D.items_hidden-the_row-Node-0 body))

pub numbers_call : (path : Path) (args : Vec Node Global) → numbers_in (D.Call path args) ≡ numbers_of args.items
unfolding numbers_in
numbers_call path args = let a = args_row (D.Call path args) in rows a.0 a.1 ∙ ap numbers_of (D.items_hidden-the_row-Node-0 args)

pub no_numbers : numbers_of [] ≡ []
unfolding numbers_of
no_numbers = refl

pub first_numbers : (node : Node) (nodes : List Node) → numbers_of (node ∷ nodes) ≡ node.id ∷ (numbers_in node.term ++ numbers_of nodes)
unfolding numbers_of
first_numbers node nodes = refl

pub one_number : (node : Node) → numbers_of (node ∷ []) ≡ node.id ∷ numbers_in node.term
one_number node = first_numbers node [] ∙ ap (λ ns. node.id ∷ (numbers_in node.term ++ ns)) no_numbers ∙ ap (λ ns. node.id ∷ ns) (append-nil (numbers_in node.term))

pub numbers_joined : (nodes others : List Node) → numbers_of (nodes ++ others) ≡ numbers_of nodes ++ numbers_of others
unfolding numbers_of
numbers_joined [] others = refl
numbers_joined (node ∷ nodes) others = ap (λ ns. node.id ∷ (numbers_in node.term ++ ns)) (numbers_joined nodes others) ∙ ap (λ ns. node.id ∷ ns) (sym (append_assoc (numbers_in node.term) (numbers_of nodes) (numbers_of others)))

none_taken : (nodes : List Node) → take 0 nodes ≡ []
none_taken [] = refl
none_taken (node ∷ nodes) = refl

pub no_taken : (nodes : List Node) → numbers_of (take 0 nodes) ≡ []
no_taken nodes = ap numbers_of (none_taken nodes) ∙ no_numbers

pub taken_next : (nodes : List Node) (i : ℕ) (node : Node) → i < length nodes → node ≡ get_or nodes i node → numbers_of (take (i + 1) nodes) ≡ numbers_of (take i nodes) ++ numbers_of (node ∷ [])
taken_next nodes i node lt is =
    let one : i + 1 ≡ suc i = omega arith in
    ap (λ n. numbers_of (take n nodes)) one ∙ ap numbers_of (take_next nodes i node lt is) ∙ numbers_joined (take i nodes) (node ∷ [])

-- copies one after another, behind others
pub numbers_copied : (front : List ℕ) (nodes old new : List Node) (i : ℕ) (node copy : Node) → i < length nodes → node ≡ get_or nodes i node → numbers_of old ≡ front ++ numbers_of (take i nodes) → numbers_of (copy ∷ []) ≡ numbers_of (node ∷ []) → new ≡ old ++ copy ∷ []
    → numbers_of new ≡ front ++ numbers_of (take (i + 1) nodes)
numbers_copied front nodes old new i node copy lt is h same e =
    ap numbers_of e ∙ numbers_joined old (copy ∷ []) ∙ ap (λ ns. ns ++ numbers_of (copy ∷ [])) h ∙ ap (λ ns. (front ++ numbers_of (take i nodes)) ++ ns) same
    ∙ append_assoc front (numbers_of (take i nodes)) (numbers_of (node ∷ [])) ∙ ap (λ ns. front ++ ns) (sym (taken_next nodes i node lt is))

-- ---- the next numbers

pub numbered_joined : (next : ℕ) (ms ns : List (Option ℕ)) → numbered next (ms ++ ns) ≡ numbered next ms ++ numbered (next_behind next ms) ns
numbered_joined next [] ns = refl
numbered_joined next (Some id ∷ ms) ns = ap (λ ids. id ∷ ids) (numbered_joined next ms ns)
numbered_joined next (None ∷ ms) ns = ap (λ ids. next ∷ ids) (numbered_joined (number_behind next) ms ns)

pub behind_joined : (next : ℕ) (ms ns : List (Option ℕ)) → next_behind next (ms ++ ns) ≡ next_behind (next_behind next ms) ns
behind_joined next [] ns = refl
behind_joined next (Some id ∷ ms) ns = behind_joined next ms ns
behind_joined next (None ∷ ms) ns = behind_joined (number_behind next) ms ns

pub numbered_kept : (next : ℕ) (ids : List ℕ) → numbered next (kept ids) ≡ ids
numbered_kept next [] = refl
numbered_kept next (id ∷ ids) = ap (λ ns. id ∷ ns) (numbered_kept next ids)

pub behind_kept : (next : ℕ) (ids : List ℕ) → next_behind next (kept ids) ≡ next
behind_kept next [] = refl
behind_kept next (id ∷ ids) = behind_kept next ids

pub front_only : (front nodes : List Node) → numbers_of front ≡ numbers_of front ++ numbers_of (take 0 nodes)
front_only front nodes = sym (ap (λ ns. numbers_of front ++ ns) (no_taken nodes) ∙ append-nil (numbers_of front))
