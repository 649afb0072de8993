use Rattle.std.proofs.Common.{◌≡◌, ◌+◌, ◌≤◌, ◌++◌, length, take, drop}
use Rattle.std.specs.Vec.{vec_capacity, vec_len}
use Rattle.asl_syntax.proofs.nodes.move_tail.Given as goal

abbrev pub invariant-loop-i : goal.invariant-loop-i
invariant-loop-i l = record {
  within : l.start ≤ l.i;
  moved : l.list.items ++ drop l.i l.nodes.items ≡ drop l.start l.fn.nodes.items;
  rest : take l.start l.nodes.items ≡ take l.start l.fn.nodes.items;
  same : length l.nodes.items ≡ length l.fn.nodes.items;
  count : l.start + vec_len l.list ≡ l.i;
  room : length l.fn.nodes.items ≤ l.start + vec_capacity l.list;
}
