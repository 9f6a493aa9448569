-- What is known of the ports as a caller goes on with a token of one.
use Rattle.std.specs.Prelude.{◌≡◌, ℕ, ◌+◌, ◌≤◌, List, length, Some}
use Rattle.xinu_model.specs.Ports.Queues.{MessagePort, PortQueue, port_at}
use Rattle.xinu_model.specs.Tables.{semaphore_at, Tables}

-- What holds of a port in use: there is a message for each token of the receivers, and the room that is left and the messages are together at
-- most the first count.
pub record HasRoom (t : Tables) (queue : PortQueue) : Type 0 where
  pub messages : (semaphore_at t queue.receive).tokens ≤ length queue.messages
  pub room : (semaphore_at t queue.send).tokens + length queue.messages ≤ queue.first_count

-- it holds of each port in use
pub record HaveRoom (t : Tables) (ports : List MessagePort) : Type 0 where
  pub each : (q : ℕ) (queue : PortQueue) → (port_at ports q).queue ≡ Some queue → HasRoom t queue
