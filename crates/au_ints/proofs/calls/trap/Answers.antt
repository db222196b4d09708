-- Each kind traps by its bits and its sign.
use Rattle.au_base.specs.declared.kinds.IntKind.TheVariants.{Nat8, Nat16, Nat32, Nat64, Int8, Int16, Int32}
use Rattle.au_base.specs.declared.kinds.IntKind.TheVariants.{Int64, Index}
use Rattle.au_ints.proofs.CallLemmas.{asked_at, trapped_at}
use Rattle.au_ints.proofs.Traps.{trapped_is}
use Rattle.au_ints.proofs.Turns.{kind_shape}
use Rattle.au_ints.proofs.calls.trap.Goals as goal

pub trap-requires : goal.trap-requires
trap-requires c = record {
  shape = kind_shape Nat8;
  first = asked_at c.args.kind Nat8 c.args.a c.in-Nat8.is
      c.ranges.a c.requires.first;
  second = asked_at c.args.kind Nat8 c.args.b c.in-Nat8.is c.ranges.b
      c.requires.second;
}

pub returns-in-Nat8 : goal.returns-in-Nat8
returns-in-Nat8 c =
    let kept = trapped_at c.args.op c.args.kind Nat8 c.args.a c.args.b c.trap.result c.in-Nat8.is c.ranges.a
    c.ranges.b c.trap.ensures in
    record { exactly = kept; value = trapped_is c.args.op c.args.kind c.args.a c.args.b c.trap.result kept }

pub trap-requires-in-Nat16 : goal.trap-requires-in-Nat16
trap-requires-in-Nat16 c = record {
  shape = kind_shape Nat16;
  first = asked_at c.args.kind Nat16 c.args.a c.in-Nat16.is c.ranges.a
      c.requires.first;
  second = asked_at c.args.kind Nat16 c.args.b c.in-Nat16.is c.ranges.b c.requires.second;
}

pub returns-in-Nat16 : goal.returns-in-Nat16
returns-in-Nat16 c =
    let kept = trapped_at c.args.op c.args.kind Nat16 c.args.a c.args.b c.trap-in-Nat16.result c.in-Nat16.is
    c.ranges.a c.ranges.b c.trap-in-Nat16.ensures in
    record { exactly = kept; value = trapped_is c.args.op c.args.kind c.args.a c.args.b c.trap-in-Nat16.result kept }

pub trap-requires-in-Nat32 : goal.trap-requires-in-Nat32
trap-requires-in-Nat32 c = record {
  shape = kind_shape Nat32;
  first = asked_at c.args.kind Nat32 c.args.a c.in-Nat32.is c.ranges.a
      c.requires.first;
  second = asked_at c.args.kind Nat32 c.args.b c.in-Nat32.is c.ranges.b c.requires.second;
}

pub returns-in-Nat32 : goal.returns-in-Nat32
returns-in-Nat32 c =
    let kept = trapped_at c.args.op c.args.kind Nat32 c.args.a c.args.b c.trap-in-Nat32.result c.in-Nat32.is
    c.ranges.a c.ranges.b c.trap-in-Nat32.ensures in
    record { exactly = kept; value = trapped_is c.args.op c.args.kind c.args.a c.args.b c.trap-in-Nat32.result kept }

pub trap-requires-in-Nat64 : goal.trap-requires-in-Nat64
trap-requires-in-Nat64 c = record {
  shape = kind_shape Nat64;
  first = asked_at c.args.kind Nat64 c.args.a c.in-Nat64.is c.ranges.a
      c.requires.first;
  second = asked_at c.args.kind Nat64 c.args.b c.in-Nat64.is c.ranges.b c.requires.second;
}

pub returns-in-Nat64 : goal.returns-in-Nat64
returns-in-Nat64 c =
    let kept = trapped_at c.args.op c.args.kind Nat64 c.args.a c.args.b c.trap-in-Nat64.result c.in-Nat64.is
    c.ranges.a c.ranges.b c.trap-in-Nat64.ensures in
    record { exactly = kept; value = trapped_is c.args.op c.args.kind c.args.a c.args.b c.trap-in-Nat64.result kept }

pub trap-requires-in-Int8 : goal.trap-requires-in-Int8
trap-requires-in-Int8 c = record {
  shape = kind_shape Int8;
  first = asked_at c.args.kind Int8 c.args.a c.in-Int8.is c.ranges.a
      c.requires.first;
  second = asked_at c.args.kind Int8 c.args.b c.in-Int8.is c.ranges.b c.requires.second;
}

pub returns-in-Int8 : goal.returns-in-Int8
returns-in-Int8 c =
    let kept = trapped_at c.args.op c.args.kind Int8 c.args.a c.args.b c.trap-in-Int8.result c.in-Int8.is
    c.ranges.a c.ranges.b c.trap-in-Int8.ensures in
    record { exactly = kept; value = trapped_is c.args.op c.args.kind c.args.a c.args.b c.trap-in-Int8.result kept }

pub trap-requires-in-Int16 : goal.trap-requires-in-Int16
trap-requires-in-Int16 c = record {
  shape = kind_shape Int16;
  first = asked_at c.args.kind Int16 c.args.a c.in-Int16.is c.ranges.a
      c.requires.first;
  second = asked_at c.args.kind Int16 c.args.b c.in-Int16.is c.ranges.b c.requires.second;
}

pub returns-in-Int16 : goal.returns-in-Int16
returns-in-Int16 c =
    let kept = trapped_at c.args.op c.args.kind Int16 c.args.a c.args.b c.trap-in-Int16.result c.in-Int16.is
    c.ranges.a c.ranges.b c.trap-in-Int16.ensures in
    record { exactly = kept; value = trapped_is c.args.op c.args.kind c.args.a c.args.b c.trap-in-Int16.result kept }

pub trap-requires-in-Int32 : goal.trap-requires-in-Int32
trap-requires-in-Int32 c = record {
  shape = kind_shape Int32;
  first = asked_at c.args.kind Int32 c.args.a c.in-Int32.is c.ranges.a
      c.requires.first;
  second = asked_at c.args.kind Int32 c.args.b c.in-Int32.is c.ranges.b c.requires.second;
}

pub returns-in-Int32 : goal.returns-in-Int32
returns-in-Int32 c =
    let kept = trapped_at c.args.op c.args.kind Int32 c.args.a c.args.b c.trap-in-Int32.result c.in-Int32.is
    c.ranges.a c.ranges.b c.trap-in-Int32.ensures in
    record { exactly = kept; value = trapped_is c.args.op c.args.kind c.args.a c.args.b c.trap-in-Int32.result kept }

pub trap-requires-in-Int64 : goal.trap-requires-in-Int64
trap-requires-in-Int64 c = record {
  shape = kind_shape Int64;
  first = asked_at c.args.kind Int64 c.args.a c.in-Int64.is c.ranges.a
      c.requires.first;
  second = asked_at c.args.kind Int64 c.args.b c.in-Int64.is c.ranges.b c.requires.second;
}

pub returns-in-Int64 : goal.returns-in-Int64
returns-in-Int64 c =
    let kept = trapped_at c.args.op c.args.kind Int64 c.args.a c.args.b c.trap-in-Int64.result c.in-Int64.is
    c.ranges.a c.ranges.b c.trap-in-Int64.ensures in
    record { exactly = kept; value = trapped_is c.args.op c.args.kind c.args.a c.args.b c.trap-in-Int64.result kept }

pub trap-requires-in-Index : goal.trap-requires-in-Index
trap-requires-in-Index c = record {
  shape = kind_shape Index;
  first = asked_at c.args.kind Index c.args.a c.in-Index.is c.ranges.a
      c.requires.first;
  second = asked_at c.args.kind Index c.args.b c.in-Index.is c.ranges.b c.requires.second;
}

pub returns-in-Index : goal.returns-in-Index
returns-in-Index c =
    let kept = trapped_at c.args.op c.args.kind Index c.args.a c.args.b c.trap-in-Index.result c.in-Index.is
    c.ranges.a c.ranges.b c.trap-in-Index.ensures in
    record { exactly = kept; value = trapped_is c.args.op c.args.kind c.args.a c.args.b c.trap-in-Index.result kept }
