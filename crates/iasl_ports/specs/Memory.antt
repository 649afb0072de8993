-- What the ports in memory hold, and which of their calls fail.
use Rattle.std.specs.Prelude.{◌≡◌, ◌+◌, ◌-◌, ◌^◌, ◌==◌, ℕ, List, [], ◌∷◌, ◌++◌, min, map, string_bytes, IsTrue}
use Rattle.std.specs.List.{list_any, zip}
use Rattle.iasl_ports.specs.Gained.{Named}
use Rattle.iasl_ports.specs.declared.memory.Calls.{Calls}
use Rattle.iasl_ports.specs.declared.memory.MemoryFiles.{MemoryFiles}
use Rattle.iasl_ports.specs.declared.memory.MemoryOutputs.{MemoryOutputs}
use Rattle.iasl_ports.specs.declared.memory.MemorySink.{MemorySink}
use Rattle.iasl_ports.specs.declared.memory.Stored.{Stored}

abbrev pub named_of : Stored → Named
named_of file = (string_bytes file.name, file.bytes.items)

-- the files to read, with the first added first
abbrev pub stored_files : MemoryFiles → List Named
stored_files files = map named_of files.stored.items

-- the files that were put, with the first put first
abbrev pub put_files : MemoryOutputs → List Named
put_files outs = zip outs.names outs.bodies

-- the bytes that were written
abbrev pub told_bytes : MemorySink → List ℕ
told_bytes sink = sink.bytes.items

-- how many bytes may be written in all
abbrev pub room_of : MemorySink → ℕ
room_of sink = sink.room

-- the number of the next call, counted from 1
abbrev pub next_call : Calls → ℕ
next_call calls = min (calls.done + 1) (2 ^ 64 - 1)

-- the next call is one that is to fail
abbrev pub IsToFail : Calls → Type 0
IsToFail calls = IsTrue (list_any (λ call. call == next_call calls) calls.failing.items)

-- one more call was counted, and the same calls are to fail
pub record CountsCall (old new : Calls) : Type 0 where
  pub done : new.done ≡ next_call old
  pub failing : new.failing.items ≡ old.failing.items

-- one more call is to fail, and no call was counted
pub record NamesCall (old new : Calls) (call : ℕ) : Type 0 where
  pub failing : new.failing.items ≡ old.failing.items ++ call ∷ []
  pub done : new.done ≡ old.done
  pub faults : new.faults ≡ old.faults

-- no call was made, none is to fail, and none has failed
pub record HasNoCalls (calls : Calls) : Type 0 where
  pub failing : calls.failing.items ≡ []
  pub done : calls.done ≡ 0
  pub faults : calls.faults ≡ 0

-- no call was counted, and the same calls are to fail
pub record KeepsCalls (old new : Calls) : Type 0 where
  pub failing : new.failing.items ≡ old.failing.items
  pub done : new.done ≡ old.done
  pub faults : new.faults ≡ old.faults
