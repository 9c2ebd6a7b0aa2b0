-- How many slots a reply may list.
use Rattle.std.specs.Prelude.{◌≤◌}
use Rattle.mg_model.specs.declared.replies.Reply.{Reply}
use Rattle.mg_model.specs.declared.replies.Reply.TheVariants as reply

-- a frame has at most 8 slots
abbrev pub HasFewSlots : Reply → Type 0
HasFewSlots (reply.Slots count bases) = count ≤ 8
HasFewSlots other = Unit {0}

-- the reply refuses the line
abbrev pub IsRefusal : Reply → Type 0
IsRefusal (reply.No word) = Unit {0}
IsRefusal other = ⊥
