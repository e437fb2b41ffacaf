pub mod FrameKeeps
