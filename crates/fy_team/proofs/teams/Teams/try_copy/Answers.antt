use Rattle.fy_team.proofs.teams.Teams.try_copy.Goals as goal

pub invariant_of-result : goal.invariant_of-result
invariant_of-result c =
    rw (
      c.in_ok-try_copy_each.ensures,
      c.deref.ensures.value,
      c.in_ok-try_copy_each-2.ensures,
      c.deref-2.ensures.value,
      c.in_ok-try_copy_each-3.ensures,
      c.deref-3.ensures.value,
      c.in_ok-from_slice.ensures.items,
      c.deref-4.ensures.value,
      c.in_ok-from_slice-2.ensures.items,
      c.deref-5.ensures.value,
    ) c.self.invariant
