use Rattle.std.proofs.Common.{◌≡◌, ◌<◌, ◌≤◌, suc, ◌+◌, ◌-◌, [], ◌∷◌, length, get_or, drop, false, sym, ap, ◌∙◌, subst, arith}
use Rattle.std.specs.Prelude.{nat_eq}
use Rattle.acpi_values.specs.Paths.{is_same_path}
use Rattle.acpi_names.proofs.Numbers.{same_places}
use Rattle.name_spelling.specs.declared.form.Form.{Form}
use Rattle.name_spelling.specs.Forms.{nearer}
use Rattle.name_spelling.proofs.Forms.{drop_next, drop_within, drop_further, found_next, nearer_fits, left_to_find}
use Rattle.name_spelling.proofs.form.shortest_placed.Goals as goal

pub loop-below-preserved : goal.loop-below-preserved
loop-below-preserved c =
    let paths = c.args.paths.now in
    let path = get_or paths c.args.number [] in
    let scope = get_or paths c.args.scope [] in
    let outer = get_or paths c.in-Some.below.0 [] in
    let seg = c.in-Some.below.1 in
    let inv = c.loop-below.invariant in
    let here : get_or paths c.loop-below.around [] ≡ seg ∷ outer = c.in-Some.ensures.below.1 in
    let e : drop c.loop-below.count path ≡ seg ∷ outer = inv.rest ∙ here in
    let within = drop_within c.loop-below.count path seg outer e in
    let one : c.loop-below.count + 1 ≡ suc c.loop-below.count = omega arith in
    let longer : length (get_or paths c.loop-below.around []) ≡ suc (length outer) = ap length here in
    let higher : c.saturating_sub-higher.result ≡ length scope - length outer = omega (arith, c.saturating_sub-higher.ensures, c.depth-segments.ensures.depth, c.depth-scopes.ensures.depth, within) in
    let above : c.loop-below.up ≤ c.saturating_sub-higher.result = omega (arith, inv.higher, higher, longer) in
    let level : get_or paths c.outer-base-in-Some.result [] ≡ drop c.saturating_sub-higher.result scope = c.outer-base-in-Some.ensures.path ∙ ap (drop (c.saturating_sub-higher.result - c.loop-below.up)) inv.level ∙ drop_further c.loop-below.up c.saturating_sub-higher.result scope above in
    let inside : c.in-Some.below.0 < length paths = omega (arith, c.in-Some.ensures.below.0, inv.inside) in
    let under : is_same_path (drop c.saturating_sub-higher.result scope) outer ≡ nat_eq c.outer-base-in-Some.result c.in-Some.below.0 = ap (λ p. is_same_path p outer) (sym level) ∙ same_places paths c.outer-base-in-Some.result c.in-Some.below.0 c.len-len.ensures.distinct c.outer-base-in-Some.ensures.within inside in
    let form : Form = record { root = false; up = c.saturating_sub-higher.result; count = c.loop-below.count + 1 } in
    let leads = nat_eq c.outer-base-in-Some.result c.in-Some.below.0 in
    let last : c.loop-below.count + 1 ≤ length path = omega (arith, within) in
    let fitting : (nearer c.loop-below.best form leads).count ≤ length path = nearer_fits c.loop-below.best form leads (length path) inv.fits last in
    let chosen : c.shorter-best.result ≡ nearer c.loop-below.best form leads = c.shorter-best.ensures in
    record {
      inside = inside;
      base_in = c.outer-base-in-Some.ensures.within;
      rest = ap (λ n. drop n path) one ∙ drop_next c.loop-below.count path seg outer e;
      counted = omega (arith, within);
      higher = higher;
      level = level;
      fits = subst (λ (f : Form). f.count ≤ length path) (sym chosen) fitting;
      same = λ has there. sym (found_next has path scope c.loop-below.best c.shorter-best.result c.loop-below.count (c.loop-below.count + 1) c.saturating_sub-higher.result seg outer leads there inv.fits e one higher under chosen) ∙ sym (ap (left_to_find has path scope c.loop-below.best c.loop-below.count) here) ∙ inv.same has there;
    }
