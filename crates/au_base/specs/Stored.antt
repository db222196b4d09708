-- What the objects in memory hold, seen without their memory.
use Rattle.std.specs.Prelude.{ℕ, List, [], ◌∷◌, ◌-◌, Bool, ◌==◌, ◌||◌, not, Vec, String, Option, Some, None}
use Rattle.std.specs.Prelude.{length, if◌then◌else◌, nat_lt, min}
use Rattle.std.specs.Global.{Global}
use Rattle.std.specs.List.{list_any}
use Rattle.std.specs.String.{string_bytes}
use Rattle.std.specs.Str.{bytes_eq}
use Rattle.au_base.specs.declared.outside.Next.{Next}
use Rattle.au_base.specs.declared.outside.Next.TheVariants as next
use Rattle.au_base.specs.declared.outside.Put.{Put}
use Rattle.au_base.specs.declared.outside.Put.TheVariants.{Took, Failed}
use Rattle.au_base.specs.Outside.{next_count}

-- a file: its name and its bytes
abbrev pub NamedFile : Type 0
NamedFile = List ℕ × List ℕ

-- a file as a shelf keeps it, seen without its memory
abbrev pub file_of : String Global × Vec ℕ Global → NamedFile
file_of file = (string_bytes file.0, file.1.items)

-- the bytes of the first file of a name
abbrev pub file_in : List NamedFile → List ℕ → Option (List ℕ)
file_in [] name = None
file_in (file ∷ files) name = if bytes_eq file.0 name then Some file.1 else file_in files name

-- a shelf that never fails: its files in order, and how often no file had the name
pub record ShelfContents : Type 0 where
  pub files : List NamedFile
  pub misses : ℕ

-- whether the next call is one that is to fail, by how many calls there were
abbrev pub next_fails : ℕ → List ℕ → Bool
next_fails calls fails = list_any (λ call. call == next_count calls) fails

-- A shelf in memory: its files in order, how many calls there were, which calls are to fail, counted
-- from 1, how many failed, and how often no file had the name.
pub record MemoryShelfContents : Type 0 where
  pub files : List NamedFile
  pub calls : ℕ
  pub fails : List ℕ
  pub faults : ℕ
  pub misses : ℕ

-- A source in memory: the bytes left, how many calls there were, which calls are to fail, counted from
-- 1, and how many failed.
pub record SourceContents : Type 0 where
  pub left : List ℕ
  pub calls : ℕ
  pub fails : List ℕ
  pub faults : ℕ

-- what a call that doesn't fail answers, by the bytes that are left
abbrev pub next_of : List ℕ → Next
next_of [] = next.End
next_of (byte ∷ rest) = next.Byte byte

-- what the next call answers
abbrev pub source_answer : SourceContents → Next
source_answer source = if next_fails source.calls source.fails then next.Failed else next_of source.left

-- A sink in memory: how many bytes it has room for, what was written, how many calls there were,
-- which calls are to fail, counted from 1, and how many failed.
pub record SinkContents : Type 0 where
  pub room : ℕ
  pub written : List ℕ
  pub calls : ℕ
  pub fails : List ℕ
  pub faults : ℕ

-- whether the next call fails: it is one that is to fail, or the sink is full
abbrev pub sink_fails : SinkContents → Bool
sink_fails sink = next_fails sink.calls sink.fails || not (nat_lt (length sink.written) sink.room)

-- what the next call answers for a piece: it takes all that there is room for
abbrev pub sink_answer : SinkContents → List ℕ → Put
sink_answer sink piece =
    if sink_fails sink then Failed else Took (min (length piece) (sink.room - length sink.written))
