use Rattle.{mg_volume.{proofs.Seams.{seam-end, seam-long, seam-next, set-seam}, specs.Standing.Respells}, std.proofs.Common.{List, ◌≡◌, ◌∙◌, ◌++◌, ℕ}}
use Rattle.std.proofs.Common.{arith, drop, length, subst, take}
use Rattle.mg_volume.proofs.standing.put_registers.Goals as goal

pub loop-k-preserved : goal.loop-k-preserved
loop-k-preserved c p first row is told =
    let new = c.args.new.now in
    let old = c.args.old.now in
    let k = c.loop-k.k in
    let below = c.loop-k-test.true in
    let long = c.told-new in
    let same = c.told-old in
    let alike : length new ≡ length old = omega arith in
    let eight : length (take k new ++ drop k old) ≡ 8 = seam-long new old k alike ∙ same in
    subst (λ (regs : List ℕ). Respells c.args.block first (record row { regs = regs }) p c.put_register.new.pages) (set-seam new old k 0 (omega arith) (omega arith))
    (c.put_register.ensures p first (record row { regs = take k new ++ drop k old }) eight (seam-next new old k 0 alike) (c.loop-k.invariant p first row is told))

pub loop-k-init : goal.loop-k-init
loop-k-init c p first row is told = subst (λ (regs : List ℕ). Respells c.args.block first (record row { regs = regs }) p c.args.pages.now) is told

pub returns : goal.returns
returns c p first row is told =
    let over = c.loop-k-test.false in
    let long = c.told-new in
    let same = c.told-old in
    subst (λ (regs : List ℕ). Respells c.args.block first (record row { regs = regs }) p c.loop-k.pages) (seam-end c.args.new.now c.args.old.now c.loop-k.k (omega (arith, over, long)) (omega (arith, over, same)))
    (c.loop-k.invariant p first row is told)
