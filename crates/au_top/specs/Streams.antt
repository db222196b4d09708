-- The streams of a call, before it and behind it.
use Rattle.std.specs.Prelude.{◌≡◌, ℕ, List, Option}
use Rattle.au_base.specs.Outside.{Adds, AddsFront, HasRisen}
use Rattle.au_base.specs.declared.outside.Sink as sink
use Rattle.au_base.specs.declared.outside.Source as source

-- what is told of a stream before a call and behind it: the bytes that are left of an input, or that stand on
-- a sink, where they are told, and how often it has failed
pub record Stream : Type 0 where
  pub old : Option (List ℕ)
  pub new : Option (List ℕ)
  pub old_faults : ℕ
  pub new_faults : ℕ

-- the input, standard output and standard error of a call
pub record Streams : Type 0 where
  pub input : Stream
  pub out : Stream
  pub err : Stream

-- what a source tells
abbrev pub source_of : {I : Type 0} → source.Ghosts I → (old new : I) → Stream
source_of i old new = record {
  old = i.left old;
  new = i.left new;
  old_faults = i.faults old;
  new_faults = i.faults new;
}

-- what a sink tells
abbrev pub sink_of : {O : Type 0} → sink.Ghosts O → (old new : O) → Stream
sink_of o old new = record {
  old = o.written old;
  new = o.written new;
  old_faults = o.faults old;
  new_faults = o.faults new;
}

-- what a source and two sinks tell
module _ {I O E : Type 0} (i : source.Ghosts I) (o : sink.Ghosts O) (e : sink.Ghosts E) where
  abbrev pub streams : (input input' : I) (out out' : O) (err err' : E) → Streams
  streams input input' out out' err err' =
      record { input = source_of i input input'; out = sink_of o out out'; err = sink_of e err err' }

-- These bytes were written to it.
abbrev pub Gains : Stream → List ℕ → Type 0
Gains s bytes = Adds s.old s.new bytes

-- A front of these bytes was written to it.
abbrev pub GainsFront : Stream → List ℕ → Type 0
GainsFront s bytes = AddsFront s.old s.new bytes

-- It failed.
abbrev pub HasFailed : Stream → Type 0
HasFailed s = HasRisen s.old_faults s.new_faults

-- It didn't fail.
abbrev pub NeverFailed : Stream → Type 0
NeverFailed s = s.new_faults ≡ s.old_faults

-- It is as it was: nothing was taken from it or written to it, and it didn't fail.
abbrev pub HasStayed : Stream → Type 0
HasStayed s = (s.new ≡ s.old) × NeverFailed s

-- No sink failed.
abbrev pub AreQuiet : Streams → Type 0
AreQuiet s = NeverFailed s.out × NeverFailed s.err
