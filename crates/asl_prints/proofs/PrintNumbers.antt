-- The numbers of what stands for what prints.
use Rattle.std.proofs.Common.{◌≡◌, ℕ, zero, suc, ◌+◌, ◌%◌, ◌<◌, ◌≤◌, true, List, [], ◌∷◌, ◌++◌, append-nil, length, get_or, drop, Vec, Global, Option, None, refl, sym, ap, ◌∙◌, subst, arith}
use Rattle.asl_tree.specs.Formats.{cut}
use Rattle.asl_tree.specs.declared.term.Control.TheVariants as Control
use Rattle.asl_tree.specs.declared.term.Op.{Op}
use Rattle.asl_tree.specs.declared.term.Node.{Node}
use Rattle.asl_tree.specs.declared.term.Term.{Term}
use Rattle.asl_tree.specs.declared.term.Term as D
use Rattle.asl_tree.specs.View.{trees_of}
use Rattle.term_plans.specs.Plans.{plan, plan_of, plans_of, text_of}
use Rattle.asl_prints.specs.Nodes.{IsPrint}
use Rattle.asl_prints.specs.Texts.{all_texts}
use Rattle.asl_prints.specs.PlanParts.{fills, prints}
use Rattle.asl_prints.specs.Numbers.{numbers_in, numbers_of, number_behind, kept, numbered, next_behind, joined, with_text, with_arguments, text_numbers, print_numbers, form_numbers}
use Rattle.asl_prints.specs.PrintNumbers.{joins, text_joins, numbers_behind, HasNumbers, IsNumberedText}
use Rattle.asl_prints.specs.declared.print.Numbers.{Numbers}
use Rattle.asl_prints.specs.declared.print.Numbered.{Numbered}
use Rattle.asl_prints.proofs.Writes.{first_text, print_row, not_print}
use Rattle.asl_prints.proofs.PlanTrees.{nodes_stand}
use Rattle.asl_prints.proofs.PlanWrites.{prints_stand, first_plan, fills_literal, no_literal}
use Rattle.asl_prints.proofs.NodeNumbers.{numbers_form, no_numbers, one_number, numbers_joined, numbered_joined, behind_joined, numbered_kept, behind_kept}
use Rattle.asl_prints.proofs.Writes as W
use Rattle.asl_prints.proofs.PlanWrites as L

-- ---- nodes that are made

pub leaf_numbers : (node : Node) → numbers_in node.term ≡ [] → numbers_of (node ∷ []) ≡ node.id ∷ []
leaf_numbers node e = one_number node ∙ ap (λ ns. node.id ∷ ns) e

omitted_leaf : (t : Term) → t ≡ D.Omitted → numbers_in t ≡ []
unfolding numbers_in
omitted_leaf t e = ap numbers_in e

pub text_leaf : (text : List ℕ) → numbers_in (D.Text text) ≡ []
unfolding numbers_in
text_leaf text = refl

pub debug_leaf : numbers_in D.Debug ≡ []
unfolding numbers_in
debug_leaf = refl

pub operator_numbers : (node : Node) (op : Op) (args body : Vec Node Global) → node.term ≡ D.Form op args body → body.items ≡ [] → numbers_of (node ∷ []) ≡ node.id ∷ numbers_of args.items
operator_numbers node op args body e b =
    one_number node ∙ ap (λ ns. node.id ∷ ns) (ap numbers_in e ∙ numbers_form op args body ∙ ap (λ ns. numbers_of args.items ++ numbers_of ns) b ∙ ap (λ ns. numbers_of args.items ++ ns) no_numbers ∙ append-nil (numbers_of args.items))

two_numbers : (first second : Node) → numbers_of (first ∷ second ∷ []) ≡ numbers_of (first ∷ []) ++ numbers_of (second ∷ [])
two_numbers first second = numbers_joined (first ∷ []) (second ∷ [])

-- ---- Concatenates

pub pushed_three : (first second none : Node) (a b c d : List Node) → a ≡ [] → b ≡ a ++ first ∷ [] → c ≡ b ++ second ∷ [] → d ≡ c ++ none ∷ [] → none.term ≡ D.Omitted → numbers_of d ≡ numbers_of (first ∷ []) ++ (numbers_of (second ∷ []) ++ none.id ∷ [])
pushed_three first second none a b c d ea eb ec ed o =
    ap numbers_of (ed ∙ ap (λ ns. ns ++ none ∷ []) ec ∙ ap (λ ns. (ns ++ second ∷ []) ++ none ∷ []) eb ∙ ap (λ ns. ((ns ++ first ∷ []) ++ second ∷ []) ++ none ∷ []) ea)
    ∙ numbers_joined (first ∷ []) (second ∷ none ∷ []) ∙ ap (λ ns. numbers_of (first ∷ []) ++ ns) (two_numbers second none ∙ ap (λ ns. numbers_of (second ∷ []) ++ ns) (leaf_numbers none (omitted_leaf none.term o)))

module _ (d u : ℕ) (front behind : List (Option ℕ)) (e : u ≡ next_behind (next_behind (number_behind d) front) behind) where
  joined_numbers : d ∷ (numbered (number_behind d) front ++ (numbered (next_behind (number_behind d) front) behind ++ u ∷ [])) ≡ numbered d (joined front behind)
  joined_numbers =
      ap (λ n. d ∷ (numbered (number_behind d) front ++ (numbered (next_behind (number_behind d) front) behind ++ n ∷ []))) e
      ∙ sym (ap (λ ns. d ∷ ns) (numbered_joined (number_behind d) front (behind ++ None ∷ []) ∙ ap (λ ns. numbered (number_behind d) front ++ ns) (numbered_joined (next_behind (number_behind d) front) behind (None ∷ []))))

  joined_behind : number_behind u ≡ next_behind d (joined front behind)
  joined_behind =
      ap number_behind e ∙ sym (behind_joined (number_behind d) front (behind ++ None ∷ []) ∙ behind_joined (next_behind (number_behind d) front) behind (None ∷ []))

pub concatenate_has : (d u : ℕ) (new : Numbers) (first second made : Node) (args : List ℕ) (front behind : List (Option ℕ)) → number_behind new.down ≡ d → new.up ≡ number_behind u → numbers_of (made ∷ []) ≡ d ∷ args → args ≡ numbers_of (first ∷ []) ++ (numbers_of (second ∷ []) ++ u ∷ [])
    → numbers_of (first ∷ []) ≡ numbered (number_behind d) front → numbers_of (second ∷ []) ≡ numbered (next_behind (number_behind d) front) behind → u ≡ next_behind (next_behind (number_behind d) front) behind → HasNumbers new made (joined front behind)
concatenate_has d u new first second made args front behind ed eu m a f s e = (
  m ∙ ap (λ ns. d ∷ ns) (a ∙ ap (λ ns. ns ++ (numbers_of (second ∷ []) ++ u ∷ [])) f ∙ ap (λ ns. numbered (number_behind d) front ++ (ns ++ u ∷ [])) s)
      ∙ joined_numbers d u front behind e ∙ ap (λ n. numbered n (joined front behind)) (sym ed),
  eu ∙ joined_behind d u front behind e ∙ ap (λ n. next_behind n (joined front behind)) (sym ed),
)

-- a text behind a node, and none
pub text_none_has : (numbers : Numbers) (front : Node) (ids : List (Option ℕ)) (text : List ℕ) → length text ≡ 0 → HasNumbers numbers front ids → HasNumbers numbers front (with_text ids text)
text_none_has numbers front ids [] e h = h
text_none_has numbers front ids (c ∷ text) e h = absurd (omega (arith, e))

pub text_some_has : (old mid new : Numbers) (front behind made : Node) (ids : List (Option ℕ)) (text : List ℕ) → (length text ≡ 0 → ⊥) → numbers_of (behind ∷ []) ≡ old.up ∷ [] → mid.up ≡ number_behind old.up → mid.down ≡ old.down
    → ((front' behind' : List (Option ℕ)) → numbers_of (front ∷ []) ≡ numbered (number_behind mid.down) front' → numbers_of (behind ∷ []) ≡ numbered (next_behind (number_behind mid.down) front') behind' → mid.up ≡ next_behind (next_behind (number_behind mid.down) front') behind' → HasNumbers new made (joined front' behind'))
    → HasNumbers old front ids → HasNumbers new made (with_text ids text)
text_some_has old mid new front behind made ids [] h b u d c has = absurd (h refl)
text_some_has old mid new front behind made ids (x ∷ text) h b u d c has =
    c ids (None ∷ []) (has.0 ∙ ap (λ n. numbered (number_behind n) ids) (sym d))
    (b ∙ ap (λ n. n ∷ []) (has.1 ∙ ap (λ n. next_behind (number_behind n) ids) (sym d)))
    (u ∙ ap number_behind (has.1 ∙ ap (λ n. next_behind (number_behind n) ids) (sym d)))

pub argument_has : (old mid new : Numbers) (front arg copy both made : Node) (ids : List (Option ℕ)) (text : List ℕ) → numbers_of (copy ∷ []) ≡ numbers_of (arg ∷ [])
    → ((front' behind' : List (Option ℕ)) → numbers_of (front ∷ []) ≡ numbered (number_behind old.down) front' → numbers_of (copy ∷ []) ≡ numbered (next_behind (number_behind old.down) front') behind' → old.up ≡ next_behind (next_behind (number_behind old.down) front') behind' → HasNumbers mid both (joined front' behind'))
    → ((ids' : List (Option ℕ)) → HasNumbers mid both ids' → HasNumbers new made (with_text ids' text)) → HasNumbers old front ids → HasNumbers new made (with_text (joined ids (kept (numbers_of (arg ∷ [])))) text)
argument_has old mid new front arg copy both made ids text e c w has =
    let ns = kept (numbers_of (arg ∷ [])) in
    let next = next_behind (number_behind old.down) ids in
    w (joined ids ns) (c ids ns has.0 (e ∙ sym (numbered_kept next (numbers_of (arg ∷ [])))) (has.1 ∙ sym (behind_kept next (numbers_of (arg ∷ [])))))

first_node : (nodes : List Node) (node : Node) → 1 ≤ length nodes → node ≡ get_or nodes 0 node → nodes ≡ node ∷ drop 1 nodes
first_node [] node h e = absurd (omega (arith, h))
first_node (n ∷ nodes) node h e = ap (λ m. m ∷ nodes) (sym e)

pub joined_has : (old mid new : Numbers) (front next made : Node) (ids : List (Option ℕ)) (text : List ℕ) (arg : Node) (texts texts' : List (List ℕ)) (args args' : List Node) → 1 ≤ length texts → 1 ≤ length args → text ≡ get_or texts 0 text → arg ≡ get_or args 0 arg → texts' ≡ drop 1 texts → args' ≡ drop 1 args
    → ((ids' : List (Option ℕ)) → HasNumbers old front ids' → HasNumbers mid next (with_text (joined ids' (kept (numbers_of (arg ∷ [])))) text)) → ((ids' : List (Option ℕ)) → HasNumbers mid next ids' → HasNumbers new made (with_arguments ids' texts' args'))
    → HasNumbers old front ids → HasNumbers new made (with_arguments ids texts args)
joined_has old mid new front next made ids text arg texts texts' args args' h k et ea rt ra n m has =
    let x = with_text (joined ids (kept (numbers_of (arg ∷ [])))) text in
    subst (HasNumbers new made)
    (ap (λ ts. with_arguments x ts args') rt ∙ ap (with_arguments x (drop 1 texts)) ra
    ∙ sym (ap (λ ts. with_arguments ids ts args) (first_text texts text h et) ∙ ap (with_arguments ids (text ∷ drop 1 texts)) (first_node args arg k ea)))
    (m x (n ids has))

pub joined_none_has : (numbers : Numbers) (front : Node) (ids : List (Option ℕ)) (texts : List (List ℕ)) (args : List Node) → length texts < 1 → HasNumbers numbers front ids → HasNumbers numbers front (with_arguments ids texts args)
joined_none_has numbers front ids [] args h has = has
joined_none_has numbers front ids (text ∷ texts) args h has = absurd (omega (arith, h))

pub joined_last_has : (numbers : Numbers) (front : Node) (ids : List (Option ℕ)) (texts : List (List ℕ)) (args : List Node) → length args < 1 → HasNumbers numbers front ids → HasNumbers numbers front (with_arguments ids texts args)
joined_last_has numbers front ids texts (arg ∷ args) h has = absurd (omega (arith, h))
joined_last_has numbers front ids [] [] h has = has
joined_last_has numbers front ids (text ∷ texts) [] h has = has

-- ---- how many Concatenates

pub text_joins_none : (text : List ℕ) → length text ≡ 0 → text_joins text ≡ 0
text_joins_none [] e = refl
text_joins_none (c ∷ text) e = absurd (omega (arith, e))

pub text_joins_some : (text : List ℕ) → (length text ≡ 0 → ⊥) → text_joins text ≡ 1
text_joins_some [] h = absurd (h refl)
text_joins_some (c ∷ text) h = refl

pub joins_next : (texts texts' : List (List ℕ)) (args args' : List Node) (text : List ℕ) (arg : Node) → 1 ≤ length texts → 1 ≤ length args → text ≡ get_or texts 0 text → texts' ≡ drop 1 texts → args' ≡ drop 1 args → joins texts args ≡ suc (text_joins text) + joins texts' args'
joins_next [] texts' args args' text arg h k et rt ra = absurd (omega (arith, h))
joins_next (t ∷ texts) texts' [] args' text arg h k et rt ra = absurd (omega (arith, k))
joins_next (t ∷ texts) texts' (a ∷ args) args' text arg h k et rt ra = sym (ap (λ t. suc (text_joins t) + joins texts' args') et ∙ ap (λ ts. suc (text_joins t) + joins ts args') rt ∙ ap (λ ns. suc (text_joins t) + joins texts ns) ra)

pub joins_none : (texts : List (List ℕ)) (args : List Node) → length texts < 1 → joins texts args ≡ 0
joins_none [] args h = refl
joins_none (text ∷ texts) args h = absurd (omega (arith, h))

pub joins_last : (texts : List (List ℕ)) (args : List Node) → length args < 1 → joins texts args ≡ 0
joins_last texts (arg ∷ args) h = absurd (omega (arith, h))
joins_last [] [] h = refl
joins_last (text ∷ texts) [] h = refl

-- ---- what a format says

pub value_has : (id : ℕ) (old new : Numbers) (front node : Node) (format first : List ℕ) (all behind : List (List ℕ)) (args : List Node) → all ≡ all_texts format → 1 ≤ length all → first ≡ get_or all 0 first → behind ≡ drop 1 all → numbers_of (front ∷ []) ≡ number_behind old.down ∷ [] → old.up ≡ number_behind (number_behind old.down)
    → number_behind new.down ≡ id → ((ids : List (Option ℕ)) → HasNumbers old front ids → HasNumbers new node (with_arguments ids behind args))
    → (numbers_of (node ∷ []) ≡ numbered id (with_arguments (None ∷ []) (cut format).1 args)) × (new.up ≡ next_behind id (with_arguments (None ∷ []) (cut format).1 args))
value_has id old new front node format first all behind args t h f r s u d v =
    let texts = r ∙ ap (drop 1) t in
    let has = v (None ∷ []) (s, u) in (
      has.0 ∙ ap (λ n. numbered n (with_arguments (None ∷ []) behind args)) d ∙ ap (λ ts. numbered id (with_arguments (None ∷ []) ts args)) texts,
      has.1 ∙ ap (λ n. next_behind n (with_arguments (None ∷ []) behind args)) d ∙ ap (λ ts. next_behind id (with_arguments (None ∷ []) ts args)) texts,
    )

-- numbers that went down as many times as there are Concatenates
behind_sum : (k n : ℕ) → number_behind (numbers_behind k n) ≡ (n + (k + 1)) % 4294967296
behind_sum zero n = ap (λ m. (n + m) % 4294967296) (omega arith)
behind_sum (suc k) n = let h = behind_sum k n in omega (arith, h)

pub behind_added : (k l n : ℕ) → numbers_behind (k + l) n ≡ numbers_behind k (numbers_behind l n)
behind_added zero l n = let e : zero + l ≡ l = omega arith in ap (λ m. numbers_behind m n) e
behind_added (suc k) l n = let e : suc k + l ≡ suc (k + l) = omega arith in ap (λ m. numbers_behind m n) e ∙ ap number_behind (behind_added k l n)

pub down_to : (id count joined start down : ℕ) → id < 4294967296 → count ≡ joined % 4294967296 → number_behind start ≡ (id + count) % 4294967296 → numbers_behind joined down ≡ start → number_behind down ≡ id
down_to id count joined start down i c s e = let h = sym (behind_sum joined down) ∙ ap number_behind e ∙ s in omega (arith, i, c, h)

text_is : (t : Term) (text : List ℕ) → t ≡ D.Text text → text_of (plan_of t) ≡ text
unfolding plan_of
text_is t text e = ap (λ t. text_of (plan_of t)) e

pub format_has : (id : ℕ) (made : Numbered) (format : Node) (text now : List ℕ) (args : List Node) → format.term ≡ D.Text text → now ≡ text → IsNumberedText id made (with_arguments (None ∷ []) (cut now).1 args) → IsNumberedText id made (text_numbers (format ∷ args))
format_has id made format text now args e n has = subst (λ t. IsNumberedText id made (with_arguments (None ∷ []) (cut t).1 args)) (n ∙ sym (text_is format.term text e)) has

pub no_format_has : (id : ℕ) (made : Numbered) (format : Node) (args : List Node) → ((text : List ℕ) → format.term ≡ D.Text text → ⊥) → fills (plan format.place (plan_of format.term) (plans_of args)) ≡ true → IsNumberedText id made (text_numbers (format ∷ args))
no_format_has id made format args never can = absurd (fills_literal format.place (plan_of format.term) (plans_of args) (no_literal format.term never) can)

pub listed_has : (id : ℕ) (made : Numbered) (format : Node) (args behind : List Node) → 1 ≤ length args → format ≡ get_or args 0 format → behind ≡ drop 1 args → (fills (plan format.place (plan_of format.term) (plans_of behind)) ≡ true → IsNumberedText id made (text_numbers (format ∷ behind)))
    → fills (plans_of args) ≡ true → IsNumberedText id made (text_numbers args)
listed_has id made format args behind h f r m can =
    let e = first_plan args format h f ∙ ap (λ ns. plan format.place (plan_of format.term) (plans_of ns)) (sym r) in
    let ns = first_node args format h f ∙ ap (λ ns. format ∷ ns) (sym r) in
    subst (λ ns. IsNumberedText id made (text_numbers ns)) (sym ns) (m (sym (ap fills e) ∙ can))

pub listed_none_has : (id : ℕ) (made : Numbered) (args : List Node) → length args < 1 → fills (plans_of args) ≡ true → IsNumberedText id made (text_numbers args)
unfolding plans_of
listed_none_has id made [] h can = absurd cc
listed_none_has id made (node ∷ args) h can = absurd (omega (arith, h))

-- ---- Stores

pub pushed_two : (value target : Node) (a b c : List Node) → a ≡ [] → b ≡ a ++ value ∷ [] → c ≡ b ++ target ∷ [] → numbers_of c ≡ numbers_of (value ∷ []) ++ numbers_of (target ∷ [])
pushed_two value target a b c ea eb ec = ap numbers_of (ec ∙ ap (λ ns. ns ++ target ∷ []) eb ∙ ap (λ ns. (ns ++ value ∷ []) ++ target ∷ []) ea) ∙ two_numbers value target

pub debug_numbers : (id : ℕ) (made target : Node) (value : Numbered) (args : List Node) → numbers_of (target ∷ []) ≡ value.next ∷ [] → (fills (plans_of args) ≡ true → IsNumberedText (number_behind id) value (text_numbers args))
    → numbers_of (made ∷ []) ≡ id ∷ (numbers_of (value.node ∷ []) ++ numbers_of (target ∷ [])) → prints (Op.Control Control.Printf) (plans_of args) ≡ true → numbers_of (made ∷ []) ≡ numbered id (print_numbers (Op.Control Control.Printf) args)
debug_numbers id made target value args t v m can =
    let has = v can in
    m ∙ ap (λ ns. id ∷ ns) (ap (λ ns. ns ++ numbers_of (target ∷ [])) has.0 ∙ ap (λ ns. numbered (number_behind id) (text_numbers args) ++ ns) (t ∙ ap (λ n. n ∷ []) has.1)
    ∙ sym (numbered_joined (number_behind id) (text_numbers args) (None ∷ [])))

pub place_numbers : (id : ℕ) (made target copy : Node) (value : Numbered) (args behind : List Node) → 1 ≤ length args → target ≡ get_or args 0 target → numbers_of (copy ∷ []) ≡ numbers_of (target ∷ []) → behind ≡ drop 1 args → (fills (plans_of behind) ≡ true → IsNumberedText (number_behind id) value (text_numbers behind))
    → numbers_of (made ∷ []) ≡ id ∷ (numbers_of (value.node ∷ []) ++ numbers_of (copy ∷ [])) → prints (Op.Control Control.Fprintf) (plans_of args) ≡ true → numbers_of (made ∷ []) ≡ numbered id (print_numbers (Op.Control Control.Fprintf) args)
place_numbers id made target copy value args behind h f c r v m can =
    let e = first_plan args target h f ∙ ap (λ ns. plan target.place (plan_of target.term) (plans_of ns)) (sym r) in
    let ns = first_node args target h f ∙ ap (λ ns. target ∷ ns) (sym r) in
    let has = v (sym (ap (prints (Op.Control Control.Fprintf)) e) ∙ can) in
    let next = next_behind (number_behind id) (text_numbers behind) in
    m ∙ ap (λ ns. id ∷ ns) (ap (λ ns. ns ++ numbers_of (copy ∷ [])) has.0 ∙ ap (λ ns. numbered (number_behind id) (text_numbers behind) ++ ns) (c ∙ sym (numbered_kept next (numbers_of (target ∷ []))))
    ∙ sym (numbered_joined (number_behind id) (text_numbers behind) (kept (numbers_of (target ∷ [])))))
    ∙ ap (λ ns. numbered id (print_numbers (Op.Control Control.Fprintf) ns)) (sym ns)

pub no_place_numbers : (id : ℕ) (made : Node) (args : List Node) → length args < 1 → prints (Op.Control Control.Fprintf) (plans_of args) ≡ true → numbers_of (made ∷ []) ≡ numbered id (print_numbers (Op.Control Control.Fprintf) args)
unfolding plans_of
no_place_numbers id made [] h can = absurd cc
no_place_numbers id made (node ∷ args) h can = absurd (omega (arith, h))

-- ---- a form

pub printf_numbers : (id : ℕ) (made : Node) (op : Op) (args : List Node) → op ≡ Op.Control Control.Printf → (prints (Op.Control Control.Printf) (plans_of args) ≡ true → numbers_of (made ∷ []) ≡ numbered id (print_numbers (Op.Control Control.Printf) args)) → prints op (plans_of args) ≡ true
    → numbers_of (made ∷ []) ≡ numbered id (print_numbers op args)
printf_numbers id made op args o m can = m (sym (ap (λ o. prints o (plans_of args)) o) ∙ can) ∙ ap (λ o. numbered id (print_numbers o args)) (sym o)

pub fprintf_numbers : (id : ℕ) (made : Node) (op : Op) (args : List Node) → op ≡ Op.Control Control.Fprintf → (prints (Op.Control Control.Fprintf) (plans_of args) ≡ true → numbers_of (made ∷ []) ≡ numbered id (print_numbers (Op.Control Control.Fprintf) args)) → prints op (plans_of args) ≡ true
    → numbers_of (made ∷ []) ≡ numbered id (print_numbers op args)
fprintf_numbers id made op args o m can = m (sym (ap (λ o. prints o (plans_of args)) o) ∙ can) ∙ ap (λ o. numbered id (print_numbers o args)) (sym o)

pub no_print_numbers : (id : ℕ) (made : Node) (op : Op) (args : List Node) → (op ≡ Op.Control Control.Printf → ⊥) → (op ≡ Op.Control Control.Fprintf → ⊥) → prints op (plans_of args) ≡ true → numbers_of (made ∷ []) ≡ numbered id (print_numbers op args)
no_print_numbers id made (Op.Control Control.Printf) args a b can = absurd (a refl)
no_print_numbers id made (Op.Control Control.Fprintf) args a b can = absurd (b refl)
no_print_numbers id made op args a b can = absurd cc

form_prints : (op : Op) (args body : Vec Node Global) → prints op (plans_of args.items) ≡ true → form_numbers (D.Form op args body) ≡ print_numbers op args.items
form_prints (Op.Control Control.For) args body can = absurd cc
form_prints op args body can = ap (print_numbers op) (D.items_hidden-the_row-Node-0 args)

pub print_form_numbers : (id : ℕ) (node : Node) (op : Op) (args body : Vec Node Global) (made : Node) (now : List Node) → node.term ≡ D.Form op args body → now ≡ args.items → IsPrint node.term → (prints op (plans_of now) ≡ true → numbers_of (made ∷ []) ≡ numbered id (print_numbers op now))
    → numbers_of (made ∷ []) ≡ numbered id (form_numbers node.term)
print_form_numbers id node op args body made now e n h m =
    let is = print_row op args body (subst IsPrint e h) in
    let can = prints_stand op (plans_of args.items) (trees_of args.items) (nodes_stand args.items) is.0 in
    m (ap (λ ns. prints op (plans_of ns)) n ∙ can) ∙ ap (λ ns. numbered id (print_numbers op ns)) n
    ∙ sym (ap (λ t. numbered id (form_numbers t)) e ∙ ap (numbered id) (form_prints op args body can))

pub no_print_form_numbers : (id : ℕ) (node made : Node) → ((o : Op) (v w : Vec Node Global) → node.term ≡ D.Form o v w → ⊥) → IsPrint node.term → numbers_of (made ∷ []) ≡ numbered id (form_numbers node.term)
no_print_form_numbers id node made not_form h = absurd (not_print node.term not_form h)

-- ---- the next number

pub debug_next : (id : ℕ) (value : Numbered) (args : List Node) → (fills (plans_of args) ≡ true → IsNumberedText (number_behind id) value (text_numbers args)) → prints (Op.Control Control.Printf) (plans_of args) ≡ true → number_behind value.next ≡ next_behind id (print_numbers (Op.Control Control.Printf) args)
debug_next id value args v can = ap number_behind (v can).1 ∙ sym (behind_joined (number_behind id) (text_numbers args) (None ∷ []))

pub place_next : (id : ℕ) (target : Node) (value : Numbered) (args behind : List Node) → 1 ≤ length args → target ≡ get_or args 0 target → behind ≡ drop 1 args → (fills (plans_of behind) ≡ true → IsNumberedText (number_behind id) value (text_numbers behind)) → prints (Op.Control Control.Fprintf) (plans_of args) ≡ true
    → value.next ≡ next_behind id (print_numbers (Op.Control Control.Fprintf) args)
place_next id target value args behind h f r v can =
    let e = first_plan args target h f ∙ ap (λ ns. plan target.place (plan_of target.term) (plans_of ns)) (sym r) in
    let ns = first_node args target h f ∙ ap (λ ns. target ∷ ns) (sym r) in
    let has = v (sym (ap (prints (Op.Control Control.Fprintf)) e) ∙ can) in
    has.1 ∙ sym (behind_joined (number_behind id) (text_numbers behind) (kept (numbers_of (target ∷ []))) ∙ behind_kept (next_behind (number_behind id) (text_numbers behind)) (numbers_of (target ∷ [])))
    ∙ ap (λ ns. next_behind id (print_numbers (Op.Control Control.Fprintf) ns)) (sym ns)

pub no_place_next : (id next : ℕ) (args : List Node) → length args < 1 → prints (Op.Control Control.Fprintf) (plans_of args) ≡ true → next ≡ next_behind id (print_numbers (Op.Control Control.Fprintf) args)
unfolding plans_of
no_place_next id next [] h can = absurd cc
no_place_next id next (node ∷ args) h can = absurd (omega (arith, h))

pub printf_next : (id next : ℕ) (op : Op) (args : List Node) → op ≡ Op.Control Control.Printf → (prints (Op.Control Control.Printf) (plans_of args) ≡ true → next ≡ next_behind id (print_numbers (Op.Control Control.Printf) args)) → prints op (plans_of args) ≡ true → next ≡ next_behind id (print_numbers op args)
printf_next id next op args o m can = m (sym (ap (λ o. prints o (plans_of args)) o) ∙ can) ∙ ap (λ o. next_behind id (print_numbers o args)) (sym o)

pub fprintf_next : (id next : ℕ) (op : Op) (args : List Node) → op ≡ Op.Control Control.Fprintf → (prints (Op.Control Control.Fprintf) (plans_of args) ≡ true → next ≡ next_behind id (print_numbers (Op.Control Control.Fprintf) args)) → prints op (plans_of args) ≡ true → next ≡ next_behind id (print_numbers op args)
fprintf_next id next op args o m can = m (sym (ap (λ o. prints o (plans_of args)) o) ∙ can) ∙ ap (λ o. next_behind id (print_numbers o args)) (sym o)

pub no_print_next : (id next : ℕ) (op : Op) (args : List Node) → (op ≡ Op.Control Control.Printf → ⊥) → (op ≡ Op.Control Control.Fprintf → ⊥) → prints op (plans_of args) ≡ true → next ≡ next_behind id (print_numbers op args)
no_print_next id next (Op.Control Control.Printf) args a b can = absurd (a refl)
no_print_next id next (Op.Control Control.Fprintf) args a b can = absurd (b refl)
no_print_next id next op args a b can = absurd cc

pub print_form_next : (id : ℕ) (node : Node) (op : Op) (args body : Vec Node Global) (next : ℕ) (now : List Node) → node.term ≡ D.Form op args body → now ≡ args.items → IsPrint node.term → (prints op (plans_of now) ≡ true → next ≡ next_behind id (print_numbers op now)) → next ≡ next_behind id (form_numbers node.term)
print_form_next id node op args body next now e n h m =
    let is = print_row op args body (subst IsPrint e h) in
    let can = prints_stand op (plans_of args.items) (trees_of args.items) (nodes_stand args.items) is.0 in
    m (ap (λ ns. prints op (plans_of ns)) n ∙ can) ∙ ap (λ ns. next_behind id (print_numbers op ns)) n
    ∙ sym (ap (λ t. next_behind id (form_numbers t)) e ∙ ap (next_behind id) (form_prints op args body can))

pub no_print_form_next : (id next : ℕ) (node : Node) → ((o : Op) (v w : Vec Node Global) → node.term ≡ D.Form o v w → ⊥) → IsPrint node.term → next ≡ next_behind id (form_numbers node.term)
no_print_form_next id next node not_form h = absurd (not_print node.term not_form h)

-- a form by its operator, as trees and as plans, with its numbers and the next one
pub ruleset print_rules = (W.to_printf, W.to_fprintf, W.no_print, L.to_printf, L.to_fprintf, L.no_print, printf_numbers, fprintf_numbers, no_print_numbers, printf_next, fprintf_next, no_print_next)

-- terms that are no forms
pub ruleset no_form_rules = (W.no_print_form, L.no_print_form, no_print_form_numbers, no_print_form_next)
