-- Terms that are resolved where they stand, node after node.
use Rattle.std.proofs.Common.{◌≡◌, ℕ, suc, ◌+◌, ◌<◌, ◌≤◌, Bool, List, [], ◌∷◌, ◌++◌, length, get_or, set, take, drop, add-one, append-nil, append_assoc, Option, Vec, Global, refl, sym, ap, ◌∙◌, arith}
use Rattle.std.specs.Prelude.{◌||◌}
use Rattle.std.proofs.lemmas.List.{take_all, drop_all, take_more_set, drop-set-lt}
use Rattle.iasl_messages.specs.declared.place.Place.{Place}
use Rattle.iasl_messages.specs.declared.message.Message.{Message}
use Rattle.asl_tree.specs.declared.path.Path.{Path}
use Rattle.asl_tree.specs.declared.term.Op.{Op}
use Rattle.asl_tree.specs.declared.term.Node.{Node}
use Rattle.asl_tree.specs.declared.term.Term.{Term}
use Rattle.asl_tree.specs.declared.term.Term as D
use Rattle.term_plans.specs.Plans.{Plan, a_call, a_form, Plans, plan, plan_of, plans_of, join}
use Rattle.term_plans.proofs.Plans.{plan_form, plan_call, no_plans_are, more_plans_are}
use Rattle.term_plans.proofs.Lists.{join_assoc}
use Rattle.term_plans.proofs.Lists.{join_nothing, join_first, push_is}
use Rattle.term_plans.proofs.Terms.{name_term}
use Rattle.asl_numbers.specs.Numbers.{inside, nodes}
use Rattle.descriptor_fields.specs.Declaring.{alone}
use Rattle.descriptor_fields.specs.Constants.{resolved_use, broken_use, resolved, resolved_from, broken, broken_from}
use Rattle.descriptor_fields.specs.Nodes.{at_node}
use Rattle.descriptor_fields.specs.Values.{Among, Arguments, Contents, OfCall, is_value_in, is_in_bits}
use Rattle.descriptor_fields.proofs.Terms.{NoCall, NoForm, a_call_is, a_form_is}
use Rattle.descriptor_fields.proofs.Walks.{first_count, from_node}

-- ---- a term

abbrev pub NoName : Term → Type 0
NoName t = (path : Path) → t ≡ D.Name path → ⊥

pub none_inside : (t : Term) (name : Path) → t ≡ D.Name name → inside (plan_of t) ≡ 0
none_inside t name e = ap (λ t. inside (plan_of t)) e ∙ ap inside (name_term name)

pub form_again : (t : Term) (op o : Op) (args xs body ys : Vec Node Global) → t ≡ D.Form op args body → o ≡ op → xs ≡ args → ys ≡ body → t ≡ D.Form o xs ys
form_again t op o args xs body ys is e a b = is ∙ ap (λ o. D.Form o args body) (sym e) ∙ ap (λ v. D.Form o v body) (sym a) ∙ ap (D.Form o xs) (sym b)

module _ (said : List (ℕ × ℕ)) (bits value : Bool) (node : ℕ) where
  pub other_resolved : (t : Term) → NoName t → NoCall t → NoForm t → plan_of t ≡ resolved said bits value node (plan_of t)
  unfolding plan_of
  other_resolved (D.Name path) name call form = absurd (name path refl)
  other_resolved (D.Call' path n args) name call form = absurd (a_call_is path n args call)
  other_resolved (D.Form' o n args m body) name call form = absurd (a_form_is o n args m body form)
  other_resolved _ name call form = refl

  other_broken : (place : Place) (t : Term) → NoName t → NoCall t → NoForm t → broken said bits value place node (plan_of t) ≡ []
  unfolding plan_of
  other_broken place (D.Name path) name call form = absurd (name path refl)
  other_broken place (D.Call' path n args) name call form = absurd (a_call_is path n args call)
  other_broken place (D.Form' o n args m body) name call form = absurd (a_form_is o n args m body form)
  other_broken place _ name call form = refl

  pub other_told : (place : Place) (faults : List Message) (t : Term) → NoName t → NoCall t → NoForm t → faults ≡ faults ++ broken said bits value place node (plan_of t)
  other_told place faults t name call form = sym (ap (λ ms. faults ++ ms) (other_broken place t name call form) ∙ append-nil faults)

  pub name_resolved : (t made : Term) (name : Path) (field : Option ℕ) → t ≡ D.Name name → field ≡ at_node said node → plan_of made ≡ resolved_use bits value name field → plan_of made ≡ resolved said bits value node (plan_of t)
  name_resolved t made name field e is f = f ∙ ap (resolved_use bits value name) is ∙ sym (ap (λ t. resolved said bits value node (plan_of t)) e ∙ ap (resolved said bits value node) (name_term name))

  pub name_told : (place : Place) (old new : List Message) (t : Term) (name : Path) (field : Option ℕ) → t ≡ D.Name name → field ≡ at_node said node → new ≡ old ++ broken_use bits value place field → new ≡ old ++ broken said bits value place node (plan_of t)
  name_told place old new t name field e is f =
      f ∙ ap (λ o. old ++ broken_use bits value place o) is ∙ sym (ap (λ t. old ++ broken said bits value place node (plan_of t)) e ∙ ap (λ p. old ++ broken said bits value place node p) (name_term name))

  module _ (t : Term) (name : Path) (args : Vec Node Global) (first : ℕ) (is : t ≡ D.Call name args) (at : first ≡ suc node) where
    pub call_resolved : (more : Vec Node Global) → plans_of more.items ≡ resolved_from said OfCall 0 bits first (plans_of args.items) → plan_of (D.Call name more) ≡ resolved said bits value node (plan_of t)
    call_resolved more f =
        plan_call name more ∙ ap (a_call name) (f ∙ ap (λ n. resolved_from said OfCall 0 bits n (plans_of args.items)) at) ∙ sym (ap (resolved said bits value node) (ap plan_of is ∙ plan_call name args))

    pub call_told : (place : Place) (old new : List Message) → new ≡ old ++ broken_from said OfCall 0 bits first (plans_of args.items) → new ≡ old ++ broken said bits value place node (plan_of t)
    call_told place old new f =
        f ∙ ap (λ n. old ++ broken_from said OfCall 0 bits n (plans_of args.items)) at ∙ sym (ap (λ p. old ++ broken said bits value place node p) (ap plan_of is ∙ plan_call name args))

  module _ (t : Term) (op : Op) (args body : Vec Node Global) (first next : ℕ) (is : t ≡ D.Form op args body) (at : first ≡ suc node) (behind : next ≡ first + nodes (plans_of args.items)) where
    at_next : next ≡ suc node + nodes (plans_of args.items)
    at_next = behind ∙ ap (λ n. n + nodes (plans_of args.items)) at

    form_plan : plan_of t ≡ a_form op (plans_of args.items) (plans_of body.items)
    form_plan = ap plan_of is ∙ plan_form op args body

    pub form_resolved : (more others : Vec Node Global) → plans_of more.items ≡ resolved_from said (Arguments op) 0 bits first (plans_of args.items) → plans_of others.items ≡ resolved_from said (Contents op) 0 bits next (plans_of body.items)
        → plan_of (D.Form op more others) ≡ resolved said bits value node (plan_of t)
    form_resolved more others f g =
        plan_form op more others ∙ ap (λ ps. a_form op ps (plans_of others.items)) (f ∙ ap (λ n. resolved_from said (Arguments op) 0 bits n (plans_of args.items)) at)
        ∙ ap (a_form op (resolved_from said (Arguments op) 0 bits (suc node) (plans_of args.items))) (g ∙ ap (λ n. resolved_from said (Contents op) 0 bits n (plans_of body.items)) at_next)
        ∙ sym (ap (resolved said bits value node) form_plan)

    pub form_told : (place : Place) (old between new : List Message) → between ≡ old ++ broken_from said (Arguments op) 0 bits first (plans_of args.items) → new ≡ between ++ broken_from said (Contents op) 0 bits next (plans_of body.items)
        → new ≡ old ++ broken said bits value place node (plan_of t)
    form_told place old between new f g =
        let given = broken_from said (Arguments op) 0 bits (suc node) (plans_of args.items) in
        let within = broken_from said (Contents op) 0 bits next (plans_of body.items) in
        g ∙ ap (λ ms. ms ++ within) (f ∙ ap (λ n. old ++ broken_from said (Arguments op) 0 bits n (plans_of args.items)) at)
        ∙ append_assoc old given within ∙ ap (λ n. old ++ (given ++ broken_from said (Contents op) 0 bits n (plans_of body.items))) at_next
        ∙ sym (ap (λ p. old ++ broken said bits value place node p) form_plan)

-- ---- the nodes of a list

-- how many nodes are left
pub begin_count : (first : ℕ) (ns : List Node) → first + nodes (plans_of (drop 0 ns)) ≡ first + nodes (plans_of ns)
begin_count first [] = refl
begin_count first (node ∷ ns) = refl

pub next_count : (now : List Node) (at next behind all : ℕ) (node made : Node) → at < length now → node ≡ get_or now at node → behind ≡ suc next + inside (plan_of node.term) → next + nodes (plans_of (drop at now)) ≡ all
    → behind + nodes (plans_of (drop (at + 1) (set now at made))) ≡ all
next_count now at next behind all node made lt is e inv =
    let more = ap (λ ns. nodes (plans_of ns)) (from_node now at node lt is) ∙ first_count node (drop (at + 1) now) in
    let same = ap (λ ns. nodes (plans_of ns)) (drop-set-lt (at + 1) now at made (omega arith)) in
    omega (arith, e, more, same, inv)

pub end_count : (now : List Node) (at next all : ℕ) → length now ≤ at → next + nodes (plans_of (drop at now)) ≡ all → next ≡ all
end_count now at next all le inv = let none : nodes (plans_of (drop at now)) ≡ 0 = ap (λ ns. nodes (plans_of ns)) (drop_all at now le) ∙ ap nodes no_plans_are in omega (arith, none, inv)

module _ (said : List (ℕ × ℕ)) (among : Among) (bits : Bool) where
  abbrev from : ℕ → ℕ → Plans → Plans
  from n next ps = resolved_from said among n bits next ps

  abbrev one : ℕ → ℕ → Plan → Plan
  one n next p = resolved said (bits || is_in_bits among n) (is_value_in among n) next p

  abbrev tell : ℕ → ℕ → Plans → List Message
  tell n next ps = broken_from said among n bits next ps

  abbrev tell_one : ℕ → Place → ℕ → Plan → List Message
  tell_one n place next p = broken said (bits || is_in_bits among n) (is_value_in among n) place next p

  -- so far, and with those that are left
  abbrev pub made_of : (now : List Node) (at next : ℕ) → Plans
  made_of now at next = join (plans_of (take at now)) (from at next (plans_of (drop at now)))

  abbrev pub told_of : (faults : List Message) (now : List Node) (at next : ℕ) → List Message
  told_of faults now at next = faults ++ tell at next (plans_of (drop at now))

  pub begin_made : (first : ℕ) (ns : List Node) → made_of ns 0 first ≡ from 0 first (plans_of ns)
  begin_made first [] = join_first (from 0 first (plans_of []))
  begin_made first (node ∷ ns) = join_first (from 0 first (plans_of (node ∷ ns)))

  pub begin_told : (first : ℕ) (ns : List Node) (faults : List Message) → told_of faults ns 0 first ≡ faults ++ tell 0 first (plans_of ns)
  begin_told first [] faults = refl
  begin_told first (node ∷ ns) faults = refl

  module _ (now : List Node) (at next behind : ℕ) (node made : Node) (lt : at < length now) (is : node ≡ get_or now at node) (count : behind ≡ suc next + inside (plan_of node.term)) where
    abbrev rest : List Node
    rest = drop (at + 1) now

    number : suc (next + inside (plan_of node.term)) ≡ behind
    number = omega (arith, count)

    next_from : from at next (plans_of (drop at now)) ≡ plan node.place (one at next (plan_of node.term)) (from (at + 1) behind (plans_of rest))
    next_from =
        ap (λ ns. from at next (plans_of ns)) (from_node now at node lt is) ∙ ap (from at next) (more_plans_are node rest)
        ∙ ap (λ n. plan node.place (one at next (plan_of node.term)) (from n (suc (next + inside (plan_of node.term))) (plans_of rest))) (sym (add-one at))
        ∙ ap (λ n. plan node.place (one at next (plan_of node.term)) (from (at + 1) n (plans_of rest))) number

    next_tell : tell at next (plans_of (drop at now)) ≡ tell_one at node.place next (plan_of node.term) ++ tell (at + 1) behind (plans_of rest)
    next_tell =
        ap (λ ns. tell at next (plans_of ns)) (from_node now at node lt is) ∙ ap (tell at next) (more_plans_are node rest)
        ∙ ap (λ n. tell_one at node.place next (plan_of node.term) ++ tell n (suc (next + inside (plan_of node.term))) (plans_of rest)) (sym (add-one at))
        ∙ ap (λ n. tell_one at node.place next (plan_of node.term) ++ tell (at + 1) n (plans_of rest)) number

    left : drop (at + 1) (set now at made) ≡ rest
    left = drop-set-lt (at + 1) now at made (omega arith)

    -- a node as the code has it
    module _ (b v : Bool) (b_is : b ≡ (bits || is_in_bits among at)) (v_is : v ≡ is_value_in among at) where
      pub next_made : (all : Plans) → made.place ≡ node.place → plan_of made.term ≡ resolved said b v next (plan_of node.term) → made_of now at next ≡ all → made_of (set now at made) (at + 1) behind ≡ all
      next_made all place made_is inv =
          ap (λ ns. join (plans_of (take (at + 1) (set now at made))) (from (at + 1) behind (plans_of ns))) left
          ∙ ap (λ ns. join (plans_of ns) (from (at + 1) behind (plans_of rest))) (take_more_set now at made lt)
          ∙ ap (λ ps. join ps (from (at + 1) behind (plans_of rest))) (push_is (take at now) made)
          ∙ ap (λ p. join (join (plans_of (take at now)) (alone p (plan_of made.term))) (from (at + 1) behind (plans_of rest))) place
          ∙ ap (λ p. join (join (plans_of (take at now)) (alone node.place p)) (from (at + 1) behind (plans_of rest)))
          (made_is ∙ ap (λ b. resolved said b v next (plan_of node.term)) b_is ∙ ap (λ v. resolved said (bits || is_in_bits among at) v next (plan_of node.term)) v_is)
          ∙ join_assoc (plans_of (take at now)) (alone node.place (one at next (plan_of node.term))) (from (at + 1) behind (plans_of rest))
          ∙ ap (join (plans_of (take at now))) (sym next_from) ∙ inv

      pub next_told : (all old new : List Message) → new ≡ old ++ broken said b v node.place next (plan_of node.term) → told_of old now at next ≡ all → told_of new (set now at made) (at + 1) behind ≡ all
      next_told all old new told_is inv =
          ap (λ ns. new ++ tell (at + 1) behind (plans_of ns)) left
          ∙ ap (λ ms. ms ++ tell (at + 1) behind (plans_of rest))
          (told_is ∙ ap (λ b. old ++ broken said b v node.place next (plan_of node.term)) b_is ∙ ap (λ v. old ++ broken said (bits || is_in_bits among at) v node.place next (plan_of node.term)) v_is)
          ∙ append_assoc old (tell_one at node.place next (plan_of node.term)) (tell (at + 1) behind (plans_of rest)) ∙ ap (λ ms. old ++ ms) (sym next_tell) ∙ inv

  pub end_made : (now : List Node) (at next : ℕ) (all : Plans) → length now ≤ at → made_of now at next ≡ all → plans_of now ≡ all
  end_made now at next all le inv =
      sym (ap (λ ns. join (plans_of ns) (from at next (plans_of (drop at now)))) (take_all at now le)
      ∙ ap (λ ps. join (plans_of now) (from at next ps)) (ap plans_of (drop_all at now le) ∙ no_plans_are) ∙ join_nothing (plans_of now)) ∙ inv

  pub end_told : (faults : List Message) (now : List Node) (at next : ℕ) (all : List Message) → length now ≤ at → told_of faults now at next ≡ all → faults ≡ all
  end_told faults now at next all le inv = sym (ap (λ ps. faults ++ tell at next ps) (ap plans_of (drop_all at now le) ∙ no_plans_are) ∙ append-nil faults) ∙ inv
