use Rattle.std.proofs.Common.{rules, refl, sym, ap, ◌∙◌, subst, ◌≡◌, ◌<◌, ◌++◌, map, take, length, Err, Bor, List, ℕ, true, false}
use Rattle.std.proofs.lemmas.Result.{err_from_is_err_and}
use Rattle.asl_macros.specs.Replacement.{text_with_values, is_active, Adds}
use Rattle.asl_macros.specs.Table.{text_at}
use Rattle.asl_macros.proofs.Values.{value_at_end, value_active, value_none, value_some_pushed, piece_more, added_more, too_long_more, none_left, one_less}
use Rattle.asl_macros.proofs.names.+replacing.Goals as goal

pub add_text-loop-rest-init : goal.add_text-loop-rest-init
unfolding text_with_values
add_text-loop-rest-init t c = record { added = refl; active = refl; within = c.requires }

pub add_text-returns-in_err-add_piece-clause-added : goal.add_text-returns-in_err-add_piece-clause-added
add_text-returns-in_err-add_piece-clause-added t c =
    let p = err_from_is_err_and c.from_residual.result c.from_residual.ensures.1 in
    let some : 0 < length c.loop-rest.rest.now = search rules in
    let more = piece_more c.args.rule.now.within c.args.levels (text_at c.args.rule.now.macros.now) c.args.active.now.items c.loop-rest.active.items c.loop-rest.context _ c.loop-rest.inside c.is_name-named.result c.loop-rest.rest.now c.split_at.result.0.now c.split_at.result.1.now
    c.loop-rest.out.items _ c.first_fragment-fragment.result c.first_fragment-fragment.ensures.exact some c.first_fragment-fragment.ensures.forward c.split_at.ensures.front c.split_at.ensures.back c.is_name-named.ensures refl c.loop-rest.invariant.active c.loop-rest.invariant.added in
    rw (p.1, p.2) (too_long_more c.in_err-add_piece.field-0.0 c.args.rule.now.limit c.loop-rest.out.items _ _ _ c.args.out.now.items _ _ c.in_err-add_piece.ensures.added more)

pub add_text-loop-rest-preserved : goal.add_text-loop-rest-preserved
add_text-loop-rest-preserved t c =
    let some : 0 < length c.loop-rest.rest.now = search rules in
    let more = piece_more c.args.rule.now.within c.args.levels (text_at c.args.rule.now.macros.now) c.args.active.now.items c.loop-rest.active.items c.loop-rest.context c.context_behind-context.result c.loop-rest.inside c.is_name-named.result c.loop-rest.rest.now c.split_at.result.0.now c.split_at.result.1.now
    c.loop-rest.out.items _ c.first_fragment-fragment.result c.first_fragment-fragment.ensures.exact some c.first_fragment-fragment.ensures.forward c.split_at.ensures.front c.split_at.ensures.back c.is_name-named.ensures c.context_behind-context.ensures c.loop-rest.invariant.active c.loop-rest.invariant.added in
    record { added = added_more _ _ _ _ _ c.in_ok-add_piece.ensures.added.0 more; active = c.in_ok-add_piece.ensures.active ∙ c.loop-rest.invariant.active; within = c.in_ok-add_piece.ensures.added.1 }

pub add_text-returns-clause-added : goal.add_text-returns-clause-added
add_text-returns-clause-added t c = (none_left _ _ _ _ _ c.loop-rest.rest.now _ (search rules) c.loop-rest.invariant.added, c.loop-rest.invariant.within)

pub add_value-returns-then-levels-eq0-clause-added : goal.add_value-returns-then-levels-eq0-clause-added
add_value-returns-then-levels-eq0-clause-added t c =
    subst (Adds c.add.result c.args.rule.now.limit c.args.out.now.items c.add.new.out.items) (sym (value_at_end c.args.levels _ _ _ c.args.name.now (search rules))) c.add.ensures

pub add_value-returns-then-is_active-clause-added : goal.add_value-returns-then-is_active-clause-added
add_value-returns-then-is_active-clause-added t c =
    let is : is_active (map (λ (other : Bor (List ℕ)). other.now) c.args.active.now.items) c.args.name.now ≡ true =
    subst (λ a. is_active (map (λ (other : Bor (List ℕ)). other.now) a) c.args.name.now ≡ true) c.deref.ensures.value (sym c.is_active.ensures ∙ c.if-is_active.true) in
    subst (Adds c.add-then-is_active.result c.args.rule.now.limit c.args.out.now.items c.add-then-is_active.new.out.items) (sym (value_active c.args.levels c.args.rule.now.within (text_at c.args.rule.now.macros.now) _ c.args.name.now is)) c.add-then-is_active.ensures

pub add_value-returns-in_err-add_text-in-Some-clause-added : goal.add_value-returns-in_err-add_text-in-Some-clause-added
add_value-returns-in_err-add_text-in-Some-clause-added t c =
    let p = err_from_is_err_and c.from_residual-in_err-add_text-in-Some.result c.from_residual-in_err-add_text-in-Some.ensures.1 in
    let some : 0 < c.args.levels = search rules in
    let is : is_active (map (λ (other : Bor (List ℕ)). other.now) c.args.active.now.items) c.args.name.now ≡ false =
    subst (λ a. is_active (map (λ (other : Bor (List ℕ)). other.now) a) c.args.name.now ≡ false) c.deref.ensures.value (sym c.is_active.ensures ∙ c.if-is_active.false) in
    let value = value_some_pushed c.args.levels c.args.rule.now.within (text_at c.args.rule.now.macros.now) c.args.active.now.items c.push.new.self.items c.args.name c.in-Some.text.now some is (sym c.in-Some.ensures) c.in_ok-push-in-Some.ensures.items in
    rw (p.1, p.2) (subst (Adds (Err c.in_err-add_text-in-Some.field-0.0) c.args.rule.now.limit c.args.out.now.items c.add_text.new.out.items) (sym value) c.in_err-add_text-in-Some.ensures.added)

pub add_value-returns-in-None-clause-added : goal.add_value-returns-in-None-clause-added
add_value-returns-in-None-clause-added t c =
    let is : is_active (map (λ (other : Bor (List ℕ)). other.now) c.args.active.now.items) c.args.name.now ≡ false =
    subst (λ a. is_active (map (λ (other : Bor (List ℕ)). other.now) a) c.args.name.now ≡ false) c.deref.ensures.value (sym c.is_active.ensures ∙ c.if-is_active.false) in
    subst (Adds c.add-in-None.result c.args.rule.now.limit c.args.out.now.items c.add-in-None.new.out.items)
    (sym (value_none c.args.levels c.args.rule.now.within (text_at c.args.rule.now.macros.now) _ c.args.name.now is (sym c.in-None.ensures))) c.add-in-None.ensures

pub add_value-returns-in_ok-add_text-in-Some-clause-added : goal.add_value-returns-in_ok-add_text-in-Some-clause-added
add_value-returns-in_ok-add_text-in-Some-clause-added t c =
    let some : 0 < c.args.levels = search rules in
    let is : is_active (map (λ (other : Bor (List ℕ)). other.now) c.args.active.now.items) c.args.name.now ≡ false =
    subst (λ a. is_active (map (λ (other : Bor (List ℕ)). other.now) a) c.args.name.now ≡ false) c.deref.ensures.value (sym c.is_active.ensures ∙ c.if-is_active.false) in
    let value = value_some_pushed c.args.levels c.args.rule.now.within (text_at c.args.rule.now.macros.now) c.args.active.now.items c.push.new.self.items c.args.name c.in-Some.text.now some is (sym c.in-Some.ensures) c.in_ok-push-in-Some.ensures.items in
    (c.in_ok-add_text-in-Some.ensures.added.0 ∙ ap (λ v. c.args.out.now.items ++ v) (sym value), c.in_ok-add_text-in-Some.ensures.added.1)

pub add_value-returns-in_ok-add_text-in-Some-clause-active : goal.add_value-returns-in_ok-add_text-in-Some-clause-active
add_value-returns-in_ok-add_text-in-Some-clause-active t c =
    let count : c.len-count.result ≡ length c.args.active.now.items = search rules in
    one_less c.truncate.new.self.items c.push.new.self.items c.args.active.now.items c.args.name c.len-count.result count c.in_ok-push-in-Some.ensures.items (c.truncate.ensures.items ∙ ap (take c.len-count.result) c.in_ok-add_text-in-Some.ensures.active)
