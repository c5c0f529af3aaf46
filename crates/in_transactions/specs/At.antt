-- IN by the endpoint's number: what `in0`, `in2` and `in3` of the rules have of their own, and what they have in common.
use Rattle.std.specs.Prelude.{◌≤◌, Bool, cond, List, ℕ, eqb, take}
use Rattle.bits.specs.Flag.{is_on}
use Rattle.ring.specs.Ring.{oldest_count, oldest_packet}
use Rattle.chip.specs.declared.Chip.{Chip}
use Rattle.chip.specs.Mask.{ep0inak, ep2inak, ep3inak, in0bavirq, in2bavirq, in3bavirq}
use Rattle.chip.specs.Set.{set_ep0, set_ep2, set_ep3}
use Rattle.model.specs.declared.EndpointNumber.{EndpointNumber}
use Rattle.model.specs.Reply.{Outcome, Reply, sent}
use Rattle.rules.specs.declared.InVerdict.{InVerdict}
use Rattle.rules.specs.Write.{raise_epirq}
use Rattle.rules.specs.In.{in_outcome, in0_verdict, in2_verdict, in3_verdict, ep0_gone, ep2_gone, ep3_gone}

-- endpoint 0's, endpoint 2's, or endpoint 3's
abbrev pub of_endpoint : {A : Type 0} → EndpointNumber → A → A → A → A
of_endpoint n at0 at2 at3 = cond (eqb n.0 0) at0 (cond (eqb n.0 2) at2 at3)

abbrev pub verdict_at : EndpointNumber → Chip → InVerdict
verdict_at n c = of_endpoint n (in0_verdict c) (in2_verdict c) (in3_verdict c)

abbrev pub inak_at : EndpointNumber → ℕ
inak_at n = of_endpoint n ep0inak ep2inak ep3inak

abbrev pub bav_at : EndpointNumber → ℕ
bav_at n = of_endpoint n in0bavirq in2bavirq in3bavirq

abbrev pub toggle_at : EndpointNumber → Chip → Bool
toggle_at n c = of_endpoint n (is_on c.ep0.intoggle) (is_on c.ep2.toggle) (is_on c.ep3.toggle)

abbrev pub packet_at : EndpointNumber → Chip → List ℕ
packet_at n c = of_endpoint n (take c.ep0.count c.ep0.bytes) (oldest_packet 2 c.ep2.ring) (take c.ep3.count c.ep3.bytes)

-- no packet is longer than a buffer
abbrev pub PacketsFit : Chip → Type 0
PacketsFit c = (c.ep0.count ≤ 64) × (oldest_count 2 c.ep2.ring ≤ 64) × (c.ep3.count ≤ 64)

-- the packet leaves, and the endpoint's BAV bit becomes 1
abbrev pub departed_at : EndpointNumber → Chip → Chip
departed_at n c = of_endpoint n (set_ep0 (ep0_gone c.ep0) c) (set_ep2 (ep2_gone c.ep2) c) (set_ep3 (ep3_gone c.ep3) c)

abbrev pub gone_at : EndpointNumber → Chip → Chip
gone_at n c = raise_epirq (bav_at n) (departed_at n c)

-- what a verdict makes of the record, and what is replied
abbrev pub outcome_at : EndpointNumber → Chip → Bool → InVerdict → Outcome Chip Reply
outcome_at n c acknowledged v = in_outcome (inak_at n) (sent (toggle_at n c) (packet_at n c)) (gone_at n c) c acknowledged v

-- `in0`, `in2` or `in3`
abbrev pub in_at : EndpointNumber → Chip → Bool → Outcome Chip Reply
in_at n c acknowledged = outcome_at n c acknowledged (verdict_at n c)
