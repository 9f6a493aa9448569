-- States are equal if and only if their parts are.
use Rattle.std.proofs.Common.{◌≡◌, ap}
use Rattle.kernel_state.specs.States.{kernel_value}
use Rattle.kernel_state.specs.Values.{KernelValue}
use Rattle.kernel_state.specs.declared.state.KernelState.TheInside.{Inside}

-- states whose parts are equal
pub record HaveEqualParts (a b : Inside) : Type 0 where
  pub tables : a.tables ≡ b.tables
  pub harts : a.harts ≡ b.harts
  pub ram : a.ram ≡ b.ram
  pub heap : a.heap ≡ b.heap
  pub pools : a.pools ≡ b.pools
  pub ports : a.ports ≡ b.ports
  pub tty : a.tty ≡ b.tty
  pub disk : a.disk ≡ b.disk
  pub names : a.names ≡ b.names
  pub files : a.files ≡ b.files
  pub replies : a.replies.items ≡ b.replies.items
  pub owes : a.owes_resched ≡ b.owes_resched

-- a state is what its parts are
pub equal_from : (a b : Inside) → HaveEqualParts a b → kernel_value a ≡ kernel_value b
equal_from a b p =
    let tables = p.tables in
    let harts = p.harts in
    let ram = p.ram in
    let heap = p.heap in
    let pools = p.pools in
    let ports = p.ports in
    let tty = p.tty in
    let disk = p.disk in
    let names = p.names in
    let files = p.files in
    let replies = p.replies in
    let owes = p.owes in
    cc

-- equal states have equal parts
pub parts_of : (a b : Inside) → kernel_value a ≡ kernel_value b → HaveEqualParts a b
parts_of a b same = record {
  tables = ap (λ (v : KernelValue). v.call.state.tables) same;
  harts = ap (λ (v : KernelValue). v.call.state.harts) same;
  ram = ap (λ (v : KernelValue). v.call.state.memory) same;
  heap = ap (λ (v : KernelValue). v.call.state.parts.heap) same;
  pools = ap (λ (v : KernelValue). v.call.state.parts.pools) same;
  ports = ap (λ (v : KernelValue). record { ports = v.call.state.parts.ports; next_port = v.call.state.parts.next_port }) same;
  tty = ap (λ (v : KernelValue). v.call.state.parts.devices.console) same;
  disk = ap (λ (v : KernelValue). v.call.state.parts.devices.disk) same;
  names = ap (λ (v : KernelValue). v.call.state.parts.devices.names) same;
  files = ap (λ (v : KernelValue). record { work = v.call.state.parts.devices.files; image = v.image }) same;
  replies = ap (λ (v : KernelValue). v.call.released) same;
  owes = ap (λ (v : KernelValue). v.call.owes_resched) same;
}
