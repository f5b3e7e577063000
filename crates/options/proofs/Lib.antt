mod Stands
mod TextByText
mod MapErr
