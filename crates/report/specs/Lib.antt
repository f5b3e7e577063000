pub mod Hex
pub mod RecordLines
pub mod LoadLines
pub mod StopLines
