use Rattle.std.proofs.Common.{sym}
use Rattle.fy_locality.proofs.ValueIndexes.{stands_here}
use Rattle.fy_locality.proofs.map.Map.place.Goals as goal

pub returns-in-Process : goal.returns-in-Process
returns-in-Process c =
    stands_here _ _ _ _ _ _ _ _ c.self.invariant.places_are c.self.view_is c.deref.ensures.value
    (sym c.in_ok-places.ensures.lookup.0) c.in_ok-places.ensures.lookup.1 c.in-Process.is

pub returns-in-Machine : goal.returns-in-Machine
returns-in-Machine c =
    stands_here _ _ _ _ _ _ _ _ c.self.invariant.places_are c.self.view_is c.deref.ensures.value
    (sym c.in_ok-places.ensures.lookup.0) c.in_ok-places.ensures.lookup.1 c.in-Machine.is

pub returns-in-Zone : goal.returns-in-Zone
returns-in-Zone c =
    stands_here _ _ _ _ _ _ _ _ c.self.invariant.places_are c.self.view_is c.deref.ensures.value
    (sym c.in_ok-places.ensures.lookup.0) c.in_ok-places.ensures.lookup.1 c.in-Zone.is

pub returns-in-DataHall : goal.returns-in-DataHall
returns-in-DataHall c =
    stands_here _ _ _ _ _ _ _ _ c.self.invariant.places_are c.self.view_is c.deref.ensures.value
    (sym c.in_ok-places.ensures.lookup.0) c.in_ok-places.ensures.lookup.1 c.in-DataHall.is

pub returns-in-DataCenter : goal.returns-in-DataCenter
returns-in-DataCenter c =
    stands_here _ _ _ _ _ _ _ _ c.self.invariant.places_are c.self.view_is c.deref.ensures.value
    (sym c.in_ok-places.ensures.lookup.0) c.in_ok-places.ensures.lookup.1 c.in-DataCenter.is
