pub mod ReceivingCalls
