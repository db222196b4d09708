-- What the traits of the outside say: counts of faults and misses, files, bytes left, bytes written.
use Rattle.std.specs.Prelude.{◌≡◌, ◌≢◌, ℕ, ◌+◌, ◌≤◌, ◌<◌, min, Bool, true, false, MatchBool, List, [], ◌∷◌}
use Rattle.std.specs.Prelude.{◌++◌, length, take, Option, Some, None, IfSome}
use Rattle.std.specs.Option.{option_map}
use Rattle.au_base.specs.Limits.{most_file_bytes}
use Rattle.au_base.specs.declared.outside.Fetch.{Fetch}
use Rattle.au_base.specs.declared.outside.Fetch.TheVariants as fetch
use Rattle.au_base.specs.declared.outside.Next.{Next}
use Rattle.au_base.specs.declared.outside.Next.TheVariants as next
use Rattle.au_base.specs.declared.outside.Put.{Put}
use Rattle.au_base.specs.declared.outside.Put.TheVariants as put

-- the last count, at which a count stands still
abbrev pub last_count : ℕ
last_count = 18446744073709551615

-- the count after one more
abbrev pub next_count : ℕ → ℕ
next_count count = min (count + 1) last_count

-- a count rose by one or more, or stands at the last count
abbrev pub HasRisen : ℕ → ℕ → Type 0
HasRisen old new = next_count old ≤ new

-- a count didn't rise, and doesn't stand at the last count
abbrev pub IsQuiet : ℕ → ℕ → Type 0
IsQuiet old new = (new ≡ old) × (old < last_count)

-- What one call does to a count: where the call counts, the count rises, and else it stays. How far
-- it rises is left open, as an object may try again before it answers.
abbrev pub Counts : Bool → ℕ → ℕ → Type 0
Counts counts old new = (old ≤ new) × MatchBool counts (HasRisen old new) (new ≡ old)

-- the files that a shelf tells: the bytes of a name's file, or none
abbrev pub Files : Type 0
Files = List ℕ → Option (List ℕ)

-- whether `fetch` failed
abbrev pub is_fault : Fetch → Bool
is_fault fetch.Failed = true
is_fault fetch.Whole = false
is_fault fetch.Missing = false
is_fault fetch.TooLarge = false
is_fault fetch.Memory = false

-- whether `fetch` found no file
abbrev pub is_miss : Fetch → Bool
is_miss fetch.Missing = true
is_miss fetch.Whole = false
is_miss fetch.Failed = false
is_miss fetch.TooLarge = false
is_miss fetch.Memory = false

-- what an answer of `fetch` says of the bytes in the room: a whole file is within the limit, the front
-- of one that is too large is one byte above it, and else the room is empty
abbrev pub FillsRoom : Fetch → List ℕ → Type 0
FillsRoom fetch.Whole room = length room ≤ most_file_bytes
FillsRoom fetch.TooLarge room = length room ≡ most_file_bytes + 1
FillsRoom fetch.Missing room = room ≡ []
FillsRoom fetch.Failed room = room ≡ []
FillsRoom fetch.Memory room = room ≡ []

-- what an answer of `fetch` says of the file that the shelf tells: the room holds all of it, or a
-- front of it, or there is none
abbrev pub TellsFile : Fetch → Option (List ℕ) → List ℕ → Type 0
TellsFile fetch.Whole file room = file ≡ Some room
TellsFile fetch.TooLarge file room = (rest : List ℕ) × (file ≡ Some (room ++ rest))
TellsFile fetch.Missing file room = file ≡ None
TellsFile fetch.Failed file room = Unit {0}
TellsFile fetch.Memory file room = Unit {0}

-- whether `next` failed
abbrev pub is_failed_next : Next → Bool
is_failed_next (next.Byte b) = false
is_failed_next next.End = false
is_failed_next next.Failed = true

-- what an answer of `next` says of the bytes left before and after, where they are told
abbrev pub TakesByte : Next → Option (List ℕ) → Option (List ℕ) → Type 0
TakesByte (next.Byte b) old new = old ≡ option_map (λ rest. b ∷ rest) new
TakesByte next.End old new = (new ≡ old) × IfSome old (λ left. left ≡ [])
TakesByte next.Failed old new = new ≡ old

-- whether `put` failed
abbrev pub is_failed_put : Put → Bool
is_failed_put (put.Took n) = false
is_failed_put put.Failed = true

-- how many bytes of a piece were taken
abbrev pub taken : Put → ℕ
taken (put.Took n) = n
taken put.Failed = 0

-- what an answer of `put` says: some of a piece that isn't empty is taken, and at most all of it
abbrev pub TakesPart : Put → List ℕ → Type 0
TakesPart (put.Took n) piece = (n ≤ length piece) × (piece ≢ [] → 0 < n)
TakesPart put.Failed piece = Unit {0}

-- the bytes written, and those of a piece behind them
abbrev pub written_more : Option (List ℕ) → List ℕ → Option (List ℕ)
written_more written piece = option_map (λ bytes. bytes ++ piece) written

-- A call has added a piece to the bytes written, where they are told.
abbrev pub Adds : Option (List ℕ) → Option (List ℕ) → List ℕ → Type 0
Adds old new piece = new ≡ written_more old piece

-- A call that failed has added some front of a piece, maybe none of it.
abbrev pub AddsFront : Option (List ℕ) → Option (List ℕ) → List ℕ → Type 0
AddsFront old new piece = (size : ℕ) × Adds old new (take size piece)
